-- The settings of a `:global` one after the other, and what all its fields come to.
use Rattle.std.specs.Prelude.{Err, Ok, Option, Result}
use mathlib.Core.Path.{◌≡◌, refl, sym, ap, ◌∙◌}
use mathlib.Core.Bool.{Bool, true, false}
use mathlib.Core.List.{List, [], ◌∷◌, ◌++◌, append-nil, append_assoc}
use Prim.Native.Nat.{ℕ, ◌+◌, ◌≤◌, ◌<◌}
use native.Mathlib.Omega.{arith}
use lib.ListN.{length, drop, get_or, drop_of_length-le}
use Rattle.text.specs.Lists.{null}
use Rattle.text.proofs.Laws.{next_of}
use Rattle.fault.specs.Fault.{and_then, needed, read_all}
use Rattle.fault.specs.declared.Cause.{Cause}
use Rattle.fault.specs.declared.Cause.TheVariants.{OptionName, MissingPart, OptionTwice}
use Rattle.fault.proofs.Readings.{never, same_value}
use Rattle.variables.specs.Scope.{Scope}
use Rattle.variables.specs.Substitute.{field_text}
use Rattle.options.specs.Options.{over}
use Rattle.options.specs.Arguments.{ArgumentPattern}
use Rattle.options.specs.Read.{Setting, arguments_of, twice}
use Rattle.options.specs.Contract.{options_in, value_in, setting_in, noted, failures, failures_after}
use Rattle.options.specs.declared.setting.OptionSetting.{OptionSetting}
use Rattle.options.proofs.LineLaws.{options_more, arguments_more, line_more, line_twice}
use Rattle.options.proofs.ReadLaws.{value_length}
use Rattle.options.proofs.ArgumentLaws.{failures_more}
use Rattle.reader.specs.Colon.{global_setting, global_field, global_read}
use Rattle.reader.specs.Contract.{Sums, AddsIn, Adds, Reads}
use Rattle.reader.specs.declared.global.GlobalRead.{GlobalRead}

-- ---- one field more
-- one more setting, by the value in its text
pub sums_more : {ps : List ArgumentPattern} {xs : List (List ℕ)} {o : GlobalRead} {ss : List Setting} {r : GlobalRead} (t : List ℕ) (s : OptionSetting) {v : List ℕ} → length t ≤ 1024 → v ≡ value_in t → Sums ps xs o ss
    → options_in r.options ≡ over (options_in o.options) (setting_in v s).options
    → r.failures.at ≡ failures_after v s xs o.failures.at
    → ((w : List ℕ) → r.line ≡ noted o.line (setting_in w s))
    → Sums ps xs r (ss ++ (setting_in (value_in t) s ∷ []))
sums_more {ps} {xs} {ss = ss} t s {v} l q h e f n =
    let short : length v ≤ 1024 = rw q (omega (arith, value_length t)) in
    rw (← q)
    (record {
      options = e ∙ rw h.options (sym (options_more ss (setting_in v s)));
      failures = f ∙ rw (h.failures, arguments_more ss (setting_in v s)) (failures_more (ps ++ arguments_of ss) v s xs short ∙ ap (λ l. failures l xs) (append_assoc ps (arguments_of ss) (setting_in v s).arguments));
      line = n v ∙ rw h.line (line_more ss (setting_in v s));
    })

-- what a field adds, by what was read of its text
pub adds_as : {ps : List ArgumentPattern} {xs : List (List ℕ)} {ss : List Setting} {r : Result GlobalRead Cause} {a b : Option (Result Setting Cause)} → a ≡ b → AddsIn ps xs ss (needed OptionName a (λ o. o)) r → Adds ps xs ss (needed OptionName b (λ o. o)) r
adds_as e h = rw (← e) (record { adds = h })

-- ---- all fields, from the left
module _ {F A B : Type 0} (g : A → Result B F) where
  -- a value at the head stands behind those before it
  read_more : (ss : List B) (x : A) (l : List A) {k : B} → g x ≡ Ok k → and_then (read_all g l) (λ m. Ok ((ss ++ (k ∷ [])) ++ m)) ≡ and_then (read_all g (x ∷ l)) (λ m. Ok (ss ++ m))
  unfolding read_all
  read_more ss x l {k} e = rw e (go (read_all g l))
    where
      go : (o : Result (List B) F) → and_then o (λ m. Ok ((ss ++ (k ∷ [])) ++ m)) ≡ and_then {B = List B} (and_then o (λ ys. Ok (k ∷ ys))) (λ m. Ok (ss ++ m))
      go (Err c) = refl
      go (Ok m) = ap Ok (append_assoc ss (k ∷ []) m)

  read_fault : {C : Type 0} (f : List B → Result C F) (x : A) (l : List A) {c : F} → g x ≡ Err c → and_then (read_all g (x ∷ l)) f ≡ Err c
  unfolding read_all
  read_fault f x l e = rw e

  -- what is read of at least one is not empty
  read_some : (x : A) (l : List A) {ss : List B} → read_all g (x ∷ l) ≡ Ok ss → null ss ≡ false
  unfolding read_all
  read_some x l {ss} e = go (g x) (read_all g l) e
    where
      go : (a : Result B F) (o : Result (List B) F) → and_then a (λ y. and_then o (λ ys. Ok (y ∷ ys))) ≡ Ok ss → null ss ≡ false
      go (Err c) o e = never e
      go (Ok y) (Err c) e = never e
      go (Ok y) (Ok ys) e = rw (← same_value e)

-- ---- the fields so far
-- the settings of the fields from one on up to another: what is kept of them, and that the rest's settings behind them are those of all
pub record SoFar (ps : List ArgumentPattern) (xs : List (List ℕ)) (sc : Scope) (fs : List (List ℕ)) (from i : ℕ) (r : GlobalRead) : Type 0 where
  pub settings : List Setting
  pub sums : Sums ps xs r settings
  pub rest : and_then (read_all (global_field sc) (drop i fs)) (λ l. Ok (settings ++ l)) ≡ read_all (global_field sc) (drop from fs)

-- no field is there
pub reads_none : {ps : List ArgumentPattern} {xs : List (List ℕ)} (sc : Scope) (fs : List (List ℕ)) (from : ℕ) → length fs ≤ from → Reads ps xs (global_read sc (drop from fs)) (Err MissingPart)
unfolding global_read read_all
reads_none sc fs from k = record { reads = rw (drop_of_length-le fs k) refl }

module _ {ps : List ArgumentPattern} {xs : List (List ℕ)} {sc : Scope} {fs : List (List ℕ)} {from : ℕ} where
  -- before the first field
  pub so_far_none : {r : GlobalRead} → Sums ps xs r [] → SoFar ps xs sc fs from from r
  so_far_none h = record { settings = []; sums = h; rest = go (read_all (global_field sc) (drop from fs)) }
    where
      go : (o : Result (List Setting) Cause) → and_then o (λ l. Ok ([] ++ l)) ≡ o
      go (Err c) = refl
      go (Ok l) = refl

  module _ {i : ℕ} {o : GlobalRead} (w : SoFar ps xs sc fs from i o) (k : i < length fs) {f : List ℕ} (g : f ≡ get_or fs i []) where
    -- the next field has a fault
    faults : {c : Cause} → global_field sc (get_or fs i []) ≡ Err c → Reads ps xs (global_read sc (drop from fs)) (Err c)
    unfolding global_read
    faults {c} e =
        let q = rw (next_of [] fs i k) at w.rest in
        let z : read_all (global_field sc) (drop from fs) ≡ Err c = sym q ∙ read_fault (global_field sc) (λ l. Ok (w.settings ++ l)) (get_or fs i []) (drop (i + 1) fs) e in
        record { reads = rw z refl }

    -- the next field's text has a fault
    pub reads_bad : {c : Cause} → Err c ≡ field_text sc f → Reads ps xs (global_read sc (drop from fs)) (Err c)
    reads_bad e = faults (rw (← g, ← e) refl)

    -- what the next field's text adds
    module _ {t : List ℕ} (e : Ok t ≡ field_text sc f) where
      field_is : global_field sc (get_or fs i []) ≡ global_setting t
      field_is = rw (← g, ← e) refl

      -- it is no good option
      pub reads_stopped : {c : Cause} → Adds ps xs w.settings (global_setting t) (Err c) → Reads ps xs (global_read sc (drop from fs)) (Err c)
      reads_stopped h = faults (field_is ∙ h.adds)

      -- its setting stands behind the others
      pub so_far_more : {r : GlobalRead} → Adds ps xs w.settings (global_setting t) (Ok r) → SoFar ps xs sc fs from (i + 1) r
      so_far_more h = let a = h.adds in record {
        settings = w.settings ++ (a.0 ∷ []);
        sums = a.2;
        rest = read_more (global_field sc) w.settings (get_or fs i []) (drop (i + 1) fs) (field_is ∙ a.1) ∙ (rw (next_of [] fs i k) at w.rest);
      }

  -- behind the last field
  module _ {i : ℕ} {o : GlobalRead} (w : SoFar ps xs sc fs from i o) (m : from < length fs) (k : length fs ≤ i) where
    all_read : read_all (global_field sc) (drop from fs) ≡ Ok w.settings
    unfolding read_all
    all_read = sym w.rest ∙ rw (drop_of_length-le fs k, append-nil w.settings)

    some_read : null w.settings ≡ false
    some_read = read_some (global_field sc) (get_or fs from []) (drop (from + 1) fs) (rw (next_of [] fs from m) at all_read)

    twice_is : {b : Bool} → b ≡ o.line.twice → twice w.settings ≡ b
    twice_is e = sym (e ∙ ap (λ l. l.twice) w.sums.line ∙ line_twice w.settings)

    -- an option stands twice
    pub reads_twice : {b : Bool} → b ≡ o.line.twice → b ≡ true → Reads ps xs (global_read sc (drop from fs)) (Err OptionTwice)
    unfolding global_read
    reads_twice e f = record { reads = rw (all_read, some_read, twice_is e, f) refl }

    -- none does
    pub reads_all : {b : Bool} → b ≡ o.line.twice → b ≡ false → Reads ps xs (global_read sc (drop from fs)) (Ok o)
    unfolding global_read
    reads_all e f = record { reads = (w.settings, rw (all_read, some_read, twice_is e, f) refl, w.sums) }
