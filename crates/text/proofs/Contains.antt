-- The laws of bytes that stand in a text. Assumes nothing.
use mathlib.Core.Path.{◌≡◌}
use mathlib.Core.Bool.{false}
use mathlib.Core.List.{List, [], ◌∷◌}
use Prim.Native.Nat.{ℕ}
use lib.ListN.{drop}
use Rattle.text.specs.Slice.{starts_with, contains}
use Rattle.text.proofs.Laws.{either_false}

-- bytes that stand nowhere in a text are not its first ones, stand nowhere behind its first byte, and are not empty
module _ (p : List ℕ) where
  pub contains_start : (s : List ℕ) → contains p s ≡ false → starts_with p s ≡ false
  unfolding contains
  contains_start [] e = e
  contains_start (x ∷ s) e = (either_false (starts_with p (x ∷ s)) (contains p s) e).0

  pub contains_rest : (s : List ℕ) → contains p s ≡ false → contains p (drop 1 s) ≡ false
  unfolding contains
  contains_rest [] e = e
  contains_rest (x ∷ s) e = (either_false (starts_with p (x ∷ s)) (contains p s) e).1

  pub contains_none : (s : List ℕ) → contains p s ≡ false → starts_with p [] ≡ false
  contains_none [] e = contains_start [] e
  contains_none (x ∷ s) e = contains_none s (contains_rest (x ∷ s) e)
