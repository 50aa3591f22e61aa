-- List functions that all layers share.
use Rattle.std.specs.List.{list_any}
use Rattle.std.specs.Prelude.{ℕ, suc, Bool, true, false, cond, List, [], ◌∷◌, eqb}

module _ {A : Type 0} where
  -- there is no element
  abbrev pub null : List A → Bool
  null [] = true
  null (x ∷ xs) = false

  -- how many elements pass
  unfoldable pub count : (A → Bool) → List A → ℕ
  count f [] = 0
  count f (x ∷ xs) = cond (f x) (suc (count f xs)) (count f xs)

-- the byte is there
unfoldable pub has : ℕ → List ℕ → Bool
has c s = list_any (λ b. eqb b c) s

-- the byte in front of the first part
abbrev pub onto : ℕ → List (List ℕ) → List (List ℕ)
onto b [] = (b ∷ []) ∷ []
onto b (p ∷ ps) = (b ∷ p) ∷ ps

-- a byte in front of the parts that follow it: it ends a part, or stands first in the next; where none follows it is in none
abbrev pub with_byte : Bool → ℕ → List (List ℕ) → List (List ℕ)
with_byte true b ps = [] ∷ ps
with_byte false b [] = []
with_byte false b (p ∷ ps) = (b ∷ p) ∷ ps

-- the parts between the bytes c: one more than there are such bytes
unfoldable pub split_at : ℕ → List ℕ → List (List ℕ)
split_at c [] = [] ∷ []
split_at c (b ∷ s) = cond (eqb b c) ([] ∷ split_at c s) (onto b (split_at c s))
