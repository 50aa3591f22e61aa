-- Comparing and searching lists of bytes.
use Rattle.std.specs.Str.{bytes_eq}
use Rattle.std.specs.Prelude.{ℕ, ◌+◌, Bool, false, cond, ◌&&◌, ◌||◌, List, [], ◌∷◌, eqb, length, take, None, Option, Some}

-- the second begins with the first
abbrev pub starts_with : List ℕ → List ℕ → Bool
starts_with p s = bytes_eq p (take (length p) s)

-- the first bytes stand somewhere in the second, one directly after the other
unfoldable pub contains : List ℕ → List ℕ → Bool
contains p [] = starts_with p []
contains p (x ∷ s) = starts_with p (x ∷ s) || contains p s

-- the first byte is d
unfoldable pub head_is : ℕ → List ℕ → Bool
head_is d [] = false
head_is d (y ∷ s) = eqb y d

-- the first place, counted from `at`, where c and then d stand
unfoldable pub find_pair : ℕ → ℕ → ℕ → List ℕ → Option ℕ
find_pair c d at [] = None
find_pair c d at (x ∷ s) = cond (eqb x c && head_is d s) (Some at) (find_pair c d (at + 1) s)
