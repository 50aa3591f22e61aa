-- The parts between the bytes c: there is one at least. Assumes nothing.
use mathlib.Core.Path.{◌≡◌, refl}
use mathlib.Core.Bool.{Bool, true, false, cond}
use mathlib.Core.List.{List, [], ◌∷◌}
use Prim.Native.Nat.{ℕ}
use lib.Dec.{eqb}
use Rattle.text.specs.Lists.{onto, split_at}

-- there is one at least
pub split_some : (c : ℕ) (s : List ℕ) → (p : List ℕ) × (ps : List (List ℕ)) × (split_at c s ≡ p ∷ ps)
unfolding split_at
split_some c [] = ([], [], refl)
split_some c (b ∷ s) = go (eqb b c) (split_some c s)
  where
    go : (x : Bool) → (p : List ℕ) × (ps : List (List ℕ)) × (split_at c s ≡ p ∷ ps) → (p : List ℕ) × (ps : List (List ℕ)) × (cond x ([] ∷ split_at c s) (onto b (split_at c s)) ≡ p ∷ ps)
    go true i = ([], split_at c s, refl)
    go false i = (b ∷ i.0, i.1, rw i.2)
