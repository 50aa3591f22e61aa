-- The deciding entry's settings one after the other, and its verdict.
use Rattle.std.specs.Prelude.{None, Option, Result, Some}
use Rattle.std.specs.Option.{is_some}
use Rattle.text.proofs.Laws.{clash}
use Rattle.question.specs.declared.Age.{Age}
use Rattle.std.specs.List.{list_any}
use mathlib.Core.Path.{◌≡◌, refl, sym, ap, ◌∙◌}
use mathlib.Core.Bool.{Bool, true, false}
use mathlib.Core.List.{List, [], ◌∷◌, ◌++◌, append-nil, append_assoc}
use Prim.Native.Nat.{ℕ, ◌≤◌}
use native.Mathlib.Omega.{arith}
use borrow.Author.Tests.{lt-ltb, le-ltb}
use lib.ListN.{length}
use lib.IntN.{ℤ}
use Rattle.text.specs.Class.{Range}
use Rattle.text.specs.Contract.{filled_to}
use Rattle.text.proofs.Buffers.{up_full, up_done}
use Rattle.fault.specs.declared.Cause.{Cause}
use Rattle.question.specs.Question.{Question}
use Rattle.question.specs.Password.{password_needed}
use Rattle.options.specs.Options.{Options, over, auth_or, timeout_or, nargs_allow}
use Rattle.options.specs.Arguments.{ArgumentPattern, in_force}
use Rattle.options.specs.Read.{Setting, arguments_of}
use Rattle.options.specs.Contract.{options_in, value_in, setting_in, failures, failures_after}
use Rattle.options.specs.declared.setting.OptionSetting.{OptionSetting}
use Rattle.options.proofs.LineLaws.{options_more, arguments_more}
use Rattle.options.proofs.ReadLaws.{value_length}
use Rattle.options.proofs.ArgumentLaws.{failures_more, arguments_pass_law}
use Rattle.entry.specs.declared.own.Own.{Own}
use Rattle.entry.specs.Verdict.{verdict_on, permit, password, stopped_by_nargs, stopped_by_argument, stopped_by_path}
use Rattle.entry.specs.Contract.{settings_in, Sums}

-- ---- settings
module _ {ps : List ArgumentPattern} {xs : List (List ℕ)} {o : Own} {ss : List Setting} where
  pub sums_same : Sums ps xs o ss → Sums ps xs o (ss ++ [])
  sums_same h = rw (append-nil ss) h

  pub sums_more : {r : Own} (t : List ℕ) (s : OptionSetting) {v : List ℕ} → length t ≤ 1024 → v ≡ value_in t → Sums ps xs o ss → options_in r.options ≡ over (options_in o.options) (setting_in v s).options → r.failures.at ≡ failures_after v s xs o.failures.at
      → Sums ps xs r (ss ++ (setting_in (value_in t) s ∷ []))
  unfolding in_force
  sums_more {r} t s {v} l q h e f =
      let short : length v ≤ 1024 = rw q (omega (arith, value_length t)) in
      rw (← q)
      (record {
        options = e ∙ rw h.options (sym (options_more ss (setting_in v s)));
        failures = f ∙ rw (h.failures, arguments_more ss (setting_in v s)) (failures_more (ps ++ arguments_of ss) v s xs short ∙ ap (λ l. failures l xs) (append_assoc ps (arguments_of ss) (setting_in v s).arguments));
      })

pub sums_as : {ps : List ArgumentPattern} {xs : List (List ℕ)} (ss : List Setting) {r : Own} {a b : Option (Result Setting Cause)} → a ≡ b → Sums ps xs r (ss ++ settings_in a) → Sums ps xs r (ss ++ settings_in b)
sums_as ss e h = rw (← e) h

-- ---- the verdict, test by test
no_number : (r : Option ℕ) → is_some r ≡ false → r ≡ None
no_number None e = refl
no_number (Some n) e = clash cc

a_number : (r : Option ℕ) → is_some r ≡ true → (k : ℕ) × (r ≡ Some k)
a_number None e = clash cc
a_number (Some n) e = (n, refl)

pub allowed : {s t : Option Range} {m n : ℕ} {r b : Bool} → r ≡ nargs_allow s m → s ≡ t → m ≡ n → r ≡ b → nargs_allow t n ≡ b
allowed e f g d = rw (← f, ← g) (sym e ∙ d)

pub some_fails : {fs gs : List Bool} {r b : Bool} → r ≡ list_any (λ f. f) fs → fs ≡ gs → r ≡ b → list_any (λ f. f) gs ≡ b
some_fails e f d = rw (← f) (sym e ∙ d)

pub password_by : (a : Bool) (t : ℤ) {r b : Bool} {l m : (Option Age)} → r ≡ password_needed a t l → l ≡ m → r ≡ b → password_needed a t m ≡ b
password_by a t e f d = rw (← f) (sym e ∙ d)

module _ (q : Question) (o : Options) (ps : List ArgumentPattern) (p : List ℕ) (few : length q.args ≤ 64) where
  pub by_nargs : nargs_allow o.nargs (length q.args) ≡ false → stopped_by_nargs ≡ verdict_on q o ps p
  unfolding verdict_on
  by_nargs e = rw e

  module _ (e : nargs_allow o.nargs (length q.args) ≡ true) where
    pub by_argument : list_any (λ f. f) (failures ps q.args) ≡ true → stopped_by_argument ≡ verdict_on q o ps p
    unfolding verdict_on
    by_argument f = rw (e, arguments_pass_law ps q.args few, f)

    module _ (f : list_any (λ f. f) (failures ps q.args) ≡ false) where
      pub by_path : {r : Option ℕ} → r ≡ filled_to 1024 (length p) → is_some r ≡ false → stopped_by_path ≡ verdict_on q o ps p
      unfolding verdict_on
      by_path {r} w g = rw (e, arguments_pass_law ps q.args few, f, lt-ltb _ _ (up_full 1024 (length p) (sym w ∙ no_number r g)))

      module _ {r : Option ℕ} (w : r ≡ filled_to 1024 (length p)) (g : is_some r ≡ true) where
        short : length p ≤ 1024
        short = let k = a_number r g in (up_done 1024 (length p) k.0 (sym w ∙ k.1)).0

        pub by_password : password_needed (auth_or o.auth) (timeout_or o.timeout) q.age ≡ true → password p o ≡ verdict_on q o ps p
        unfolding verdict_on
        by_password d = rw (e, arguments_pass_law ps q.args few, f, le-ltb _ _ short, d)

        pub by_none : password_needed (auth_or o.auth) (timeout_or o.timeout) q.age ≡ false → permit p o ≡ verdict_on q o ps p
        unfolding verdict_on
        by_none d = rw (e, arguments_pass_law ps q.args few, f, le-ltb _ _ short, d)
