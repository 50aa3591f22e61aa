-- The laws of the day names.
use Rattle.std.specs.Bool.{Decides}
use Rattle.std.specs.Char.{to_ascii_lowercase}
use Rattle.std.specs.List.{position_or_len}
use Rattle.std.specs.Option.{option_map}
use Rattle.std.specs.Prelude.{None, Option, Some}
use Rattle.std.proofs.lemmas.Bool.Decides.{nat_tests, same_from_decides}
use mathlib.Core.Path.{◌≡◌, refl, ◌∙◌}
use mathlib.Core.Bool.{Bool, true, false, not, cond, ◌&&◌}
use mathlib.Core.List.{List, [], ◌∷◌, map}
use Prim.Native.Nat.{ℕ, suc, ◌+◌, ◌≤◌}
use native.Mathlib.Omega.{arith}
use borrow.Author.Tests.{eqb-true, eq-eqb, lt-ltb}
use lib.Dec.{eqb, ltb}
use lib.ListN.{length, take}
use Rattle.text.specs.Case.{lower_of}
use Rattle.times.specs.declared.day.Day.TheVariants.{Only}
use Rattle.times.specs.Day.{day_names, shortens, day_among}

lower_is : (b : ℕ) → to_ascii_lowercase b ≡ lower_of b
unfolding lower_of
lower_is b = grind (arith, nat_tests)

-- the beginning of a name, as std compares it
begins : (s n : List ℕ) → length s ≤ length n → Decides (shortens s (map lower_of n)) (map to_ascii_lowercase (take (length s) n) ≡ map to_ascii_lowercase s)
unfolding shortens
begins [] n h = (λ e. refl, λ e. refl)
begins (b ∷ s) [] h = absurd (omega arith)
begins (b ∷ s) (x ∷ n) h = go (eqb (lower_of b) (lower_of x)) refl (begins s n (omega arith))
  where
    go : (t : Bool) → eqb (lower_of b) (lower_of x) ≡ t → Decides (shortens s (map lower_of n)) (map to_ascii_lowercase (take (length s) n) ≡ map to_ascii_lowercase s) → Decides (t && shortens s (map lower_of n)) (to_ascii_lowercase x ∷ map to_ascii_lowercase (take (length s) n) ≡ to_ascii_lowercase b ∷ map to_ascii_lowercase s)
    go true e d = (λ f. let i = d.0 f in let k = eqb-true _ _ e in cc (lower_is b, lower_is x), λ f. d.1 cc)
    go false e d = (λ f. absurd (cc f), λ f. let k : lower_of b ≡ lower_of x = cc (lower_is b, lower_is x) in cc (eq-eqb _ _ k))

pub shortens_is : (s n : List ℕ) (r : Bool) → length s ≤ length n → Decides r (map to_ascii_lowercase (take (length s) n) ≡ map to_ascii_lowercase s) → r ≡ shortens s (map lower_of n)
shortens_is s n r h d = same_from_decides r _ d (begins s n h)

-- a text that is longer than a name
pub longer : (s n : List ℕ) → suc (length n) ≤ length s → false ≡ shortens s (map lower_of n)
unfolding shortens
longer [] n h = absurd (omega arith)
longer (b ∷ s) [] h = refl
longer (b ∷ s) (x ∷ n) h = rw (← longer s n (omega arith)) (go (eqb (lower_of b) (lower_of x)))
  where
    go : (t : Bool) → false ≡ t && false
    go true = refl
    go false = refl

-- the first name that a text shortens, by its place
module _ {X : Type 0} (name : X → List ℕ) (s : List ℕ) where
  abbrev place : List X → ℕ
  place xs = position_or_len (λ x. shortens s (name x)) xs

  among_from : (d : ℕ) (xs : List X) → cond (ltb (place xs) (length xs)) (Some (Only (d + place xs))) None ≡ day_among d (map name xs) s
  unfolding day_among
  among_from d [] = refl
  among_from d (x ∷ xs) = go (shortens s (name x)) (among_from (d + 1) xs)
    where
      go : (t : Bool) → cond (ltb (place xs) (length xs)) (Some (Only (d + 1 + place xs))) None ≡ day_among (d + 1) (map name xs) s → cond (ltb (cond (not t) (1 + place xs) 0) (suc (length xs))) (Some (Only (d + cond (not t) (1 + place xs) 0))) None ≡ cond t (Some (Only d)) (day_among (d + 1) (map name xs) s)
      go true e = let z : d + 0 ≡ d = omega arith in let k : ltb 0 (suc (length xs)) ≡ true = lt-ltb _ _ (omega arith) in rw (z, k)
      go false e =
          let q : ltb (1 + place xs) (suc (length xs)) ≡ ltb (place xs) (length xs) = grind (arith, nat_tests) in
          let z : d + (1 + place xs) ≡ d + 1 + place xs = omega arith in
          rw (q, z) e

  pub among_is : (xs : List X) → map name xs ≡ day_names → (r : Option ℕ) → r ≡ cond (ltb (place xs) (length xs)) (Some (place xs)) None → option_map Only r ≡ day_among 0 day_names s
  among_is xs m r e = rw e (go (ltb (place xs) (length xs)) ∙ rw m at (among_from 0 xs))
    where
      go : (t : Bool) → option_map Only (cond t (Some (place xs)) None) ≡ cond t (Some (Only (0 + place xs))) None
      go true = let z : 0 + place xs ≡ place xs = omega arith in rw z
      go false = refl
