-- The deciding entry's path and its verdict.
use Rattle.std.specs.Option.{unwrap_or}
use Rattle.std.specs.Prelude.{None, Option, Some}
use Rattle.question.specs.declared.Age.{Age}
use mathlib.Core.Path.{◌≡◌, refl, sym, ap, ◌∙◌}
use mathlib.Core.Bool.{Bool, true, false, not, cond}
use mathlib.Core.List.{List}
use Prim.Native.Nat.{ℕ, ◌+◌, ◌-◌, ◌≤◌, ◌<◌, min}
use native.Mathlib.Omega.{arith}
use native.Mathlib.Decide.{dec_le}
use borrow.Author.Tests.{lt-ltb}
use lib.ListN.{length, take, drop, drop_of_length-le}
use Rattle.text.specs.Contract.{filled_to, Wrote}
use Rattle.text.proofs.Laws.{part_rest, clash}
use Rattle.text.proofs.Buffers.{up_full, wrote_read}
use Rattle.question.specs.Question.{Question}
use Rattle.options.specs.Options.{Options, over, nargs_allow}
use Rattle.options.specs.Arguments.{ArgumentPattern, in_force, arguments_pass}
use Rattle.options.specs.Read.{arguments_of}
use Rattle.options.specs.Contract.{options_in, failures}
use Rattle.entry.specs.Field.{Entry}
use Rattle.entry.specs.Entry.{conditions_accept}
use Rattle.entry.specs.Path.{starred, path_for}
use Rattle.entry.specs.Verdict.{Verdict, permit, password, stopped_by_nargs, stopped_by_argument, stopped_by_path, verdict_on, verdict_of}
use Rattle.entry.specs.Contract.{Sums, verdict_in}
use Rattle.entry.specs.declared.own.Own.{Own}
use Rattle.entry.specs.declared.verdict.Verdict.{Verdict as CodeVerdict}
use Rattle.entry.specs.declared.verdict.Verdict.TheVariants.{Nargs, Argument, Path as PathLength, Password, Permit}

-- the rest of a text from a byte on, where the byte was made to stand in it
pub rest_from : (t : List ℕ) (at start : ℕ) → start ≡ min at (length t) → drop at t ≡ take (length t - start) (drop start t)
rest_from t at start e = elim (dec_le at (length t)) [ yes h ↦ inside (omega arith) | no h ↦ past (omega arith) (omega arith) ]
  where
    inside : start ≡ at → drop at t ≡ take (length t - start) (drop start t)
    inside g = rw g (sym (part_rest at t))

    past : length t ≤ at → length t ≤ start → drop at t ≡ take (length t - start) (drop start t)
    past h g = sym (part_rest start t ∙ drop_of_length-le t g ∙ sym (drop_of_length-le t h))

-- the path that was written, with the question's command
pub path_written : {old new command asked : List ℕ} (t : List ℕ) {r : Option ℕ} → asked ≡ command → Wrote old new 0 (starred command t) r → Wrote old new 0 (starred asked t) r
path_written t e w = rw e w

-- ---- the verdict
-- whether a verdict holds a path
abbrev with_path : Verdict → Bool
with_path (permit p o) = true
with_path (password p o) = true
with_path stopped_by_nargs = false
with_path stopped_by_argument = false
with_path stopped_by_path = false

without_path : (q : Question) (o : Options) (ps : List ArgumentPattern) (p : List ℕ) → 1024 < length p → with_path (verdict_on q o ps p) ≡ false
unfolding verdict_on
without_path q o ps p h = rw (lt-ltb 1024 (length p) h) (go (nargs_allow o.nargs (length q.args)) (arguments_pass ps q.args))
  where
    go : (a b : Bool) → with_path (cond (not a) stopped_by_nargs (cond (not b) stopped_by_argument stopped_by_path)) ≡ false
    go false b = refl
    go true false = refl
    go true true = refl

-- where the path does not fit the verdict holds none, and stands for the same whatever the path
stopped : (o : Options) (p p' : List ℕ) (v : CodeVerdict) → with_path (verdict_in p o v) ≡ false → verdict_in p o v ≡ verdict_in p' o v
stopped o p p' Nargs e = refl
stopped o p p' Argument e = refl
stopped o p p' PathLength e = refl
stopped o p p' Password e = clash cc
stopped o p p' Permit e = clash cc

-- the entry's verdict is that on its own settings over those in force, with the path that was written
module _ (q : Question) (o : Options) (ps : List ArgumentPattern) (e : Entry) {xs : List (List ℕ)} {own : Own} (s : Sums ps xs own e.settings) (a : q.args ≡ xs) (few : length q.args ≤ 64) {p old new : List ℕ} {r : Option ℕ} (w : Wrote old new 0 p r) (l : length old ≡ 1024) where
  fits : r ≡ filled_to 1024 (length p)
  fits = let z : 0 + length p ≡ length p = omega arith in w.answer ∙ rw (l, z)

  pub decided : {f : Options} {n : ℕ} {last : (Option Age)} (v : CodeVerdict) {k : ℕ} → f ≡ over (options_in own.options) o → n ≡ length xs → q.age ≡ last
      → ((x : Question) (ys : List ArgumentPattern) (z : List ℕ) → length x.args ≤ 64 → n ≡ length x.args → last ≡ x.age → own.failures.at ≡ failures ys x.args → r ≡ filled_to 1024 (length z) → verdict_in z f v ≡ verdict_on x f ys z)
      → k ≡ unwrap_or r 0 → path_for q.command e.pairs ≡ Some p → conditions_accept q.user e ≡ true → verdict_of q o ps e ≡ Some (verdict_in (take k new) f v)
  unfolding verdict_of
  decided {f} {n} {last} v {k} g c t h m y u = rw (y, u, m) (ap Some (ap (λ z. verdict_on q (over z o) qs p) (sym s.options) ∙ ap (λ z. verdict_on q z qs p) (sym g) ∙ sym d ∙ go r refl))
    where
      qs : List ArgumentPattern
      qs = in_force ps (arguments_of e.settings)

      d : verdict_in p f v ≡ verdict_on q f qs p
      d = h q qs p few (c ∙ ap length (sym a)) (sym t) (s.failures ∙ ap (failures qs) (sym a)) fits

      go : (x : Option ℕ) → r ≡ x → verdict_in p f v ≡ verdict_in (take (unwrap_or x 0) new) f v
      go (Some b) i = ap (λ z. verdict_in z f v) (sym (wrote_read w i))
      go None i = stopped f p (take 0 new) v (ap with_path d ∙ without_path q f qs p (up_full 1024 (length p) (sym fits ∙ i)))
