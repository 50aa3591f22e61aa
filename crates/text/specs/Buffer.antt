-- Bytes laid into a lent buffer.
use Rattle.std.specs.Prelude.{ℕ, ◌+◌, List, [], ◌∷◌, set}

-- the buffer with the bytes stored one after the other from place n on; a place past its end takes none
unfoldable pub laid : List ℕ → ℕ → List ℕ → List ℕ
laid out n [] = out
laid out n (b ∷ xs) = laid (set out n b) (n + 1) xs
