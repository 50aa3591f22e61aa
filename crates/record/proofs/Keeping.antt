-- Which numbers are known.
use mathlib.Core.Path.{◌≡◌}
use mathlib.Core.Bool.{true}
use mathlib.Core.Logic.{◌⊎◌, inl, inr}
use Prim.Native.Nat.{ℕ, ◌≤◌}
use native.Mathlib.Omega.{arith}
use borrow.Author.Tests.{le-leb, leb-true}
use lib.Dec.{leb}
use Rattle.text.specs.Class.{within}
use Rattle.text.proofs.Laws.{both_true, both_of, either_of, either_true}
use Rattle.record.specs.Stored.{known}

module _ (n : ℕ) where
  pub known_told : known n ≡ true → (n ≤ 5) ⊎ ((11 ≤ n) × (n ≤ 23))
  unfolding known
  known_told e = go (either_true (leb n 5) (within 11 23 n) e)
    where
      go : (leb n 5 ≡ true) ⊎ (within 11 23 n ≡ true) → (n ≤ 5) ⊎ ((11 ≤ n) × (n ≤ 23))
      go (inl t) = inl (leb-true n 5 t)
      go (inr t) = let k = both_true (leb 11 n) (leb n 23) t in inr (leb-true 11 n k.0, leb-true n 23 k.1)

  -- every number of an answer but 10: 0 to 5, and 11 to 23
  pub known_of : (n ≤ 5) ⊎ ((11 ≤ n) × (n ≤ 23)) → known n ≡ true
  unfolding known
  known_of (inl h) = rw (le-leb n 5 h)
  known_of (inr h) = either_of (leb n 5) (within 11 23 n) (both_of (le-leb 11 n h.0) (le-leb n 23 h.1))

  pub known_most : known n ≡ true → n ≤ 23
  known_most e = go (known_told e)
    where
      go : (n ≤ 5) ⊎ ((11 ≤ n) × (n ≤ 23)) → n ≤ 23
      go (inl h) = omega arith
      go (inr h) = h.1
