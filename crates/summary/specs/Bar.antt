-- The bar of `#` beside a count (02 (x): `supertab --figures`).
use Rattle.std.specs.Prelude.{ℕ, max, ◌+◌, ◌*◌, ◌-◌, ◌/◌, cond, List, [], ◌∷◌, ◌++◌, eqb, length, replicate}
use Rattle.text.specs.Bytes.{byte}
use Rattle.output.specs.Decimal.{decimal}

-- the largest of some counts, 0 for none
unfoldable pub largest_of : List ℕ → ℕ
largest_of [] = 0
largest_of (n ∷ l) = max n (largest_of l)

-- 48 marks for the largest count, rounded up; none where there is no largest
unfoldable pub bar_length : (n most : ℕ) → ℕ
bar_length n most = cond (eqb most 0) 0 ((n * 48 + (most - 1)) / most)

-- blanks that fill up a count to eight columns, one at the least
unfoldable pub gap_text : ℕ → List ℕ
gap_text n = replicate (max 1 (8 - length (decimal n))) (byte " ")

-- the bar of a count
unfoldable pub bar_text : (n most : ℕ) → List ℕ
bar_text n most = cond (eqb (bar_length n most) 0) [] (gap_text n ++ replicate (bar_length n most) (byte "#"))
