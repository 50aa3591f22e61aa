-- Sets (01: "`[a-z]`, `[!a-z]`, not empty, closed by the first `]`, read left to right, `x-y` a range (x not above y) unless y is that `]`, all else plain").
use Rattle.std.specs.List.{list_all, list_any}
use Rattle.std.specs.Prelude.{ℕ, Bool, not, cond, ◌&&◌, List, [], ◌∷◌, leb, drop}
use Rattle.text.specs.Bytes.{byte, is}
use Rattle.text.specs.Class.{Range, range, in_range}
use Rattle.text.specs.Lists.{null}
use Rattle.text.specs.Slice.{head_is}

-- the ranges of a set's bytes, read left to right; a plain byte is a range of one
unfoldable pub ranges : List ℕ → List Range
ranges [] = []
ranges (x ∷ []) = range x x ∷ []
ranges (x ∷ m ∷ []) = range x x ∷ range m m ∷ []
ranges (x ∷ m ∷ y ∷ s) = cond (is "-" m) (range x y ∷ ranges s) (range x x ∷ ranges (m ∷ y ∷ s))

-- 01: the byte in front of a set's members that negates it
abbrev pub negates : ℕ
negates = byte "!"

-- what stands between the brackets, without the mark that negates
unfoldable pub members : (mark : ℕ) → List ℕ → List Range
unfolding ranges head_is
members mark body = ranges (cond (head_is mark body) (drop 1 body) body)

-- 01: x not above y
abbrev pub rising : Range → Bool
rising r = leb r.low r.high

-- 01: not empty, and no range runs backwards
unfoldable pub good_set : (mark : ℕ) → List ℕ → Bool
unfolding members
good_set mark body = not (null (members mark body)) && list_all rising (members mark body)

-- the byte is in one of the ranges
unfoldable pub covered : List Range → ℕ → Bool
covered rs b = list_any (λ r. in_range r b) rs

-- the set with these bytes between its brackets holds b; the mark in front negates
unfoldable pub in_set : (mark : ℕ) → List ℕ → ℕ → Bool
unfolding members covered head_is
in_set mark body b = cond (head_is mark body) (not (covered (members mark body) b)) (covered (members mark body) b)
