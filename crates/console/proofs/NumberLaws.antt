-- The laws of MINUTE and AGE: numbers of any length, held at a limit on the way. Assumes nothing.
use Rattle.std.specs.Prelude.{None, Option, Some}
use Rattle.std.specs.Str.{bytes_eq}
use Rattle.std.specs.Cmp.Lexicographic.{pointwise}
use Rattle.std.proofs.lemmas.Bool.Decides.{nat_tests}
use mathlib.Core.Path.{◌≡◌, refl, sym, ap, ◌∙◌}
use mathlib.Core.Bool.{Bool, true, false, cond}
use mathlib.Core.List.{List, [], ◌∷◌}
use Prim.Native.Nat.{ℕ, zero, suc, ◌+◌, ◌-◌, ◌*◌, ◌≤◌, ◌<◌, min}
use native.Mathlib.Omega.{arith}
use borrow.Author.Tests.{lt-ltb, le-ltb, le-leb, lt-leb, eqb-true, leb-true, leb-false}
use lib.Dec.{eqb, leb}
use lib.IntN.{ℤ, pos, negsuc, neg_ℤ, ◌-ℤ◌, +ℤ_idl}
use lib.ListN.{length, take, drop, get_or, drop_of_length-le}
use Rattle.text.specs.Bytes.{bytes}
use Rattle.text.specs.Class.{digit}
use Rattle.text.specs.Number.{digits}
use Rattle.text.specs.Slice.{starts_with}
use Rattle.text.proofs.Laws.{next, clash}
use Rattle.question.specs.declared.WeekMinute.{WeekMinute}
use Rattle.console.specs.QuestionLine.{most_age, most_age_below, number_in, minute_in, age_from, age_in}
use Rattle.console.specs.Contract.{age_held, capped_at, magnitude_limit}
use mir.Syntax.{w64}
use mir.Val.{SFits, to_z, of_z}
use mir.ValLaws.{to_z-of_z, to_z_pos}

-- a number held at the limit on the way is held there at the end
capped_digits : (limit v : ℕ) (s : List ℕ) → capped_at limit (digits (min v limit) s) ≡ capped_at limit (digits v s)
unfolding digits
capped_digits limit v [] = let z : min (min v limit) limit ≡ min v limit = omega arith in rw z
capped_digits limit v (b ∷ s) = go (digit b) (λ w. capped_digits limit w s)
  where
    go : (t : Bool) → ((w : ℕ) → capped_at limit (digits (min w limit) s) ≡ capped_at limit (digits w s)) → capped_at limit (cond t (digits (min v limit * 10 + (b - 48)) s) None) ≡ capped_at limit (cond t (digits (v * 10 + (b - 48)) s) None)
    go true p =
        let z : min (min v limit * 10 + (b - 48)) limit ≡ min (v * 10 + (b - 48)) limit = omega arith in
        sym (p (min v limit * 10 + (b - 48))) ∙ ap (λ (k : ℕ). capped_at limit (digits k s)) z ∙ p (v * 10 + (b - 48))
    go false p = refl

-- a turn of a loop over the digits, with `most` the limit
module _ (most v : ℕ) (s : List ℕ) (i : ℕ) where
  pub magnitude_on : i < length s → digit (get_or s i 0) ≡ true → capped_at most (digits (min (v * 10 + (get_or s i 0 - 48)) most) (drop (i + 1) s)) ≡ capped_at most (digits v (drop i s))
  unfolding digits
  magnitude_on h t = capped_digits most (v * 10 + (get_or s i 0 - 48)) (drop (i + 1) s) ∙ rw (next s i, t)

  pub magnitude_off : i < length s → digit (get_or s i 0) ≡ false → None ≡ capped_at most (digits v (drop i s))
  unfolding digits
  magnitude_off h t = rw (next s i, t)

  pub magnitude_end : length s ≤ i → v ≤ most → Some v ≡ capped_at most (digits v (drop i s))
  unfolding digits
  magnitude_end h k = let z : min v most ≡ v = omega arith in rw (drop_of_length-le s, z)

pub magnitude_none : (s : List ℕ) → eqb (length s) 0 ≡ true → None ≡ capped_at magnitude_limit (number_in s)
unfolding number_in
magnitude_none [] h = refl
magnitude_none (b ∷ s) h = let z = eqb-true (suc (length s)) 0 h in absurd (omega arith)

pub magnitude_start : (s : List ℕ) → eqb (length s) 0 ≡ false → capped_at magnitude_limit (digits 0 s) ≡ capped_at magnitude_limit (number_in s)
unfolding number_in
magnitude_start [] h = cc
magnitude_start (b ∷ s) h = refl

-- what a number held at the limit tells of the number
capped_some : (most v : ℕ) (o : Option ℕ) → Some v ≡ capped_at most o → (n : ℕ) × (o ≡ Some n) × (v ≡ min n most)
capped_some most v None e = clash cc
capped_some most v (Some n) e = (n, refl, cc)

capped_none : (most : ℕ) (o : Option ℕ) → None ≡ capped_at most o → o ≡ None
capped_none most None e = refl
capped_none most (Some n) e = clash cc

module _ (s : List ℕ) where
  pub minute_none : None ≡ capped_at magnitude_limit (number_in s) → None ≡ minute_in s
  unfolding minute_in
  minute_none e = rw (capped_none magnitude_limit (number_in s) e)

  pub minute_over : (v : ℕ) → Some v ≡ capped_at magnitude_limit (number_in s) → 10080 ≤ v → None ≡ minute_in s
  unfolding minute_in
  minute_over v e h =
      let t = capped_some magnitude_limit v (number_in s) e in
      let k : 10080 ≤ t.0 = omega (arith, t.2) in
      rw (t.1, le-ltb t.0 10080 k)

  pub minute_good : (v : ℕ) (m : WeekMinute) → Some v ≡ capped_at magnitude_limit (number_in s) → v < 10080 → m.0 ≡ v → Some m ≡ minute_in s
  unfolding minute_in
  minute_good v m e h q =
      let t = capped_some magnitude_limit v (number_in s) e in
      let z : t.0 ≡ v = omega (arith, t.2) in
      let k : m ≡ record { 0 = v } = rw (← q) in
      rw (t.1, z, lt-ltb v 10080 h, k)

-- a number held at the limit is an age where the number is
held_plain : (v n : ℕ) → v ≡ min n magnitude_limit → age_held (pos v) ≡ age_from pos most_age (Some n)
held_plain v n e = go (leb n most_age) refl
  where
    go : (t : Bool) → leb n most_age ≡ t → age_held (pos v) ≡ cond t (Some (Some (record { 0 = pos n }))) None
    go true q = let h = leb-true n most_age q in let z : v ≡ n = omega arith in rw (z, q)
    go false q = let h = leb-false n most_age q in let k : most_age < v = omega arith in rw (lt-leb v most_age k)

held_below : (v n : ℕ) → v ≡ min n magnitude_limit → age_held (neg_ℤ (pos v)) ≡ age_from (λ m. neg_ℤ (pos m)) most_age_below (Some n)
held_below zero n e = let z : n ≡ 0 = omega arith in rw z
held_below (suc v) n e = go (leb n most_age_below) refl
  where
    go : (t : Bool) → leb n most_age_below ≡ t → age_held (negsuc v) ≡ cond t (Some (Some (record { 0 = neg_ℤ (pos n) }))) None
    go true q = let h = leb-true n most_age_below q in let z : n ≡ suc v = omega arith in let k : v ≤ most_age = omega arith in rw (z, le-leb v most_age k)
    go false q = let h = leb-false n most_age_below q in let k : most_age < v = omega arith in rw (lt-leb v most_age k)

-- the numbers as the code has them, in 64 bits
module _ (v : ℕ) (h : v ≤ magnitude_limit) where
  plus : to_z w64 v ≡ pos v
  plus = to_z_pos w64 v (omega arith)

  minus_fits : (n : ℕ) → n ≤ magnitude_limit → SFits w64 (neg_ℤ (pos n))
  minus_fits zero k = record { sfits = omega arith }
  minus_fits (suc n) k = record { sfits = omega arith }

  minus : to_z w64 (of_z w64 (pos 0 -ℤ to_z w64 v)) ≡ neg_ℤ (pos v)
  minus = rw (plus, +ℤ_idl (neg_ℤ (pos v))) (to_z-of_z w64 (neg_ℤ (pos v)) (minus_fits v h))

eqb_turn : (a b : ℕ) → eqb a b ≡ eqb b a
eqb_turn a b = grind (arith, nat_tests)

-- AGE by its first byte
pub dash : (s : List ℕ) → pointwise eqb (take 1 s) (45 ∷ []) ≡ starts_with (bytes "-") s
dash [] = refl
dash (x ∷ s) = rw (eqb_turn x 45)

module _ (s : List ℕ) where
  pub age_never : bytes_eq s (bytes "-") ≡ true → Some None ≡ age_in s
  unfolding age_in
  age_never e = rw e

  module _ (d : bytes_eq s (bytes "-") ≡ false) where
    module _ (t : starts_with (bytes "-") s ≡ true) where
      pub below_none : None ≡ capped_at magnitude_limit (number_in (drop 1 s)) → None ≡ age_in s
      unfolding age_in
      below_none e = rw (d, t, capped_none magnitude_limit (number_in (drop 1 s)) e)

      pub below_some : (v : ℕ) → Some v ≡ capped_at magnitude_limit (number_in (drop 1 s)) → age_held (to_z w64 (of_z w64 (pos 0 -ℤ to_z w64 v))) ≡ age_in s
      unfolding age_in
      below_some v e =
          let o = capped_some magnitude_limit v (number_in (drop 1 s)) e in
          rw (d, t, o.1, minus v (omega (arith, o.2))) (held_below v o.0 o.2)

    module _ (t : starts_with (bytes "-") s ≡ false) where
      pub plain_none : None ≡ capped_at magnitude_limit (number_in s) → None ≡ age_in s
      unfolding age_in
      plain_none e = rw (d, t, capped_none magnitude_limit (number_in s) e)

      pub plain_some : (v : ℕ) → Some v ≡ capped_at magnitude_limit (number_in s) → age_held (to_z w64 v) ≡ age_in s
      unfolding age_in
      plain_some v e =
          let o = capped_some magnitude_limit v (number_in s) e in
          rw (d, t, o.1, plus v (omega (arith, o.2))) (held_plain v o.0 o.2)
