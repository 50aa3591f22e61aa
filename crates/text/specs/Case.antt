-- A letter in its other case, and names that differ in case only.
use Rattle.std.specs.Prelude.{ℕ, ◌+◌, ◌-◌, ◌≡◌, cond, List, [], ◌∷◌}
use Rattle.text.specs.Bytes.{byte}
use Rattle.text.specs.Class.{within}

-- a capital letter as a small one, any other byte as it is
unfoldable pub lower_of : ℕ → ℕ
lower_of b = cond (within (byte "A") (byte "Z") b) (b + 32) b

-- a small letter as a capital one, any other byte as it is
unfoldable pub upper_of : ℕ → ℕ
upper_of b = cond (within (byte "a") (byte "z") b) (b - 32) b

-- names that are the same byte by byte, but for the case of letters
pub data Alike : List ℕ → List ℕ → Type 0 where
  ends : Alike [] []
  goes : {b c : ℕ} {s t : List ℕ} → lower_of b ≡ lower_of c → Alike s t → Alike (b ∷ s) (c ∷ t)
