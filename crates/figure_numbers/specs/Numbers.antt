-- Figures as 64 numbers (02 (x), include/supertab.h).
use Rattle.std.specs.List.{list_all}
use Rattle.std.specs.Prelude.{ℕ, min, Bool, ◌&&◌, List, [], ◌∷◌, ◌++◌, map, ℤ, pos, negsuc, neg_ℤ, get_or, take, drop}
use Rattle.std.specs.Int.Signed.{le_z}
use Rattle.figures.specs.Figures.{record_limit, sum_limit, below_sum}
use Rattle.figures.specs.declared.Figures.{Figures}

-- how many numbers there are
abbrev pub numbers_length : ℕ
numbers_length = 64

-- ---- from numbers to figures
abbrev pub is_between : (low high : ℤ) → ℤ → Bool
is_between low high z = le_z low z && le_z z high

-- a count is 0 to 1,000,000
abbrev pub is_count : ℤ → Bool
is_count z = is_between (pos 0) (pos record_limit) z

-- the number at a place
abbrev pub number_at : List ℤ → ℕ → ℤ
number_at l i = get_or l i (pos 0)

-- "a count outside 0 to 1,000,000 or a sum outside ±16,777,215,000,000", each sum on its own side of zero; 31 and 61 to 63 are not looked at
unfoldable pub usable : List ℤ → Bool
usable l =
    list_all is_count (take 31 l)
    && list_all is_count (take 24 (drop 32 l))
    && is_between (neg_ℤ (pos sum_limit)) (pos 0) (number_at l 56)
    && is_between (pos 0) (pos sum_limit) (number_at l 57)
    && list_all is_count (take 3 (drop 58 l))

-- a number that is not below zero
abbrev pub positive_part : ℤ → ℕ
positive_part (pos n) = n
positive_part (negsuc n) = 0

-- the nearest of 0 to a limit
unfoldable pub nearest : (limit : ℕ) → ℤ → ℕ
nearest limit z = min (positive_part z) limit

-- a number as a count, as a sum of ages, and as one of ages below zero; one that is none counts as the nearest that is
abbrev pub count_in : ℤ → ℕ
count_in z = nearest record_limit z

abbrev pub sum_in : ℤ → ℕ
sum_in z = nearest sum_limit z

abbrev pub below_in : ℤ → ℕ
below_in z = nearest sum_limit (neg_ℤ z)

-- the figures that the first 64 say
unfoldable pub figures_in : List ℤ → Figures
figures_in l = record {
  answers = map count_in (take 24 l);
  weekdays = map count_in (take 7 (drop 24 l));
  hours = map count_in (take 24 (drop 32 l));
  below = below_in (number_at l 56);
  sum = sum_in (number_at l 57);
  ages = count_in (number_at l 58);
  refused = count_in (number_at l 59);
  given = count_in (number_at l 60);
}

-- ---- from figures to numbers
-- a sum of ages, as far as its limit
unfoldable pub sum_number : ℕ → ℤ
sum_number n = pos (min n sum_limit)

-- the last eight: the two sums, the count of the mean, refused, given, and three that are kept for later
unfoldable pub totals_of : Figures → List ℤ
totals_of f = below_sum f ∷ sum_number f.sum ∷ pos f.ages ∷ pos f.refused ∷ pos f.given ∷ pos 0 ∷ pos 0 ∷ pos 0 ∷ []

-- answers at 0, weekdays at 24, one that is kept for later, hours at 32, the rest at 56
unfoldable pub numbers_of : Figures → List ℤ
numbers_of f = map pos f.answers ++ map pos f.weekdays ++ (pos 0 ∷ []) ++ map pos f.hours ++ totals_of f
