-- The figures of a list of records (02 (x)), by counting and adding; nothing of batches is in it.
use Rattle.question.specs.declared.Age.{Age}
use Rattle.std.specs.Prelude.{ℕ, zero, suc, min, ◌+◌, ◌/◌, ◌%◌, Bool, true, false, not, cond, ◌&&◌, List, [], ◌∷◌, eqb, leb, ℤ, pos, neg_ℤ, length, take, drop, None, Option, Some}
use Rattle.text.specs.Lists.{count}
use Rattle.times.specs.Clock.{day_minutes}
use Rattle.record.specs.declared.Fields.{Fields}
use Rattle.record.specs.Layout.{record_length, is_below, size_of}
use Rattle.record.specs.Read.{record_in, record_told}
use Rattle.figures.specs.declared.Figures.{Figures}
use Rattle.figures.specs.declared.report.Mean.{Mean}

-- "up to 1,000,000 logger records"
abbrev pub record_limit : ℕ
record_limit = 1000000

-- what the ages of so many records come to at most (law `sums_fit`)
abbrev pub sum_limit : ℕ
sum_limit = 16777215000000

-- ---- the records of a list of bytes
-- k records that a list of bytes begins with
unfoldable pub records_in : ℕ → List ℕ → List (List ℕ)
records_in zero s = []
records_in (suc k) s = take record_length s ∷ records_in k (drop record_length s)

-- the whole records of a list of bytes
unfoldable pub records_of : List ℕ → List (List ℕ)
records_of s = records_in (length s / record_length) s

-- the fields that a record shows; none where (ii) refuses it
unfoldable pub fields_shown : List ℕ → Option Fields
fields_shown s = (record_told (record_in s)).shown

-- ---- counting and adding
-- "A record that (ii) refuses counts as refused only": it passes no test, and it has nothing of any amount
abbrev pub passes_test : (Fields → Bool) → Option Fields → Bool
passes_test test (Some f) = test f
passes_test test None = false

abbrev pub amount_of : (Fields → ℕ) → Option Fields → ℕ
amount_of amount (Some f) = amount f
amount_of amount None = 0

-- whether a record is refused
abbrev pub is_refused : Option Fields → Bool
is_refused (Some f) = false
is_refused None = true

-- how many records pass a test
unfoldable pub how_many : (Fields → Bool) → List (List ℕ) → ℕ
how_many test rs = count (λ s. passes_test test (fields_shown s)) rs

-- what they have together of an amount
unfoldable pub total : (Fields → ℕ) → List (List ℕ) → ℕ
total amount [] = 0
total amount (s ∷ rs) = amount_of amount (fields_shown s) + total amount rs

-- how many are refused
unfoldable pub refused_of : List (List ℕ) → ℕ
refused_of rs = count (λ s. is_refused (fields_shown s)) rs

-- ---- what is counted and summed
-- the weekday; Monday is 0
abbrev pub weekday_of : Fields → ℕ
weekday_of f = f.minute.0 / day_minutes

-- "hour of the day"
abbrev pub day_hour_of : Fields → ℕ
day_hour_of f = f.minute.0 / 60 % 24

-- "ages of records with answer 0 or 1, apart for those below zero": how far below; "never" has the sign but no size, and adds nothing
unfoldable pub below_zero : (number : ℕ) → (Option Age) → ℕ
below_zero n age = cond (leb n 1 && is_below age) (size_of age) 0

-- "and the rest (ages of `never` in neither)"
unfoldable pub is_from_zero : (number : ℕ) → (Option Age) → Bool
is_from_zero n age = leb n 1 && not (is_below age)

-- an age of the rest
unfoldable pub from_zero : (number : ℕ) → (Option Age) → ℕ
from_zero n age = cond (is_from_zero n age) (size_of age) 0

-- f of 0, f of 1, .., so many
unfoldable pub table : ℕ → (ℕ → ℕ) → List ℕ
table zero f = []
table (suc n) f = f 0 ∷ table n (λ i. f (suc i))

-- "how many of each answer number, how many per weekday and per hour of the day, the sum of ages .., and the mean age of the latter as sum and count"
unfoldable pub figures_of : List (List ℕ) → Figures
figures_of rs = record {
  answers = table 24 (λ n. how_many (λ f. eqb f.number n) rs);
  weekdays = table 7 (λ d. how_many (λ f. eqb (weekday_of f) d) rs);
  hours = table 24 (λ h. how_many (λ f. eqb (day_hour_of f) h) rs);
  below = total (λ f. below_zero f.number f.age) rs;
  sum = total (λ f. from_zero f.number f.age) rs;
  ages = how_many (λ f. is_from_zero f.number f.age) rs;
  refused = refused_of rs;
  given = length rs;
}

-- ---- the figures one by one
-- the sum of the ages below zero; numbers that are figures of no records count as far as the limit
unfoldable pub below_sum : Figures → ℤ
below_sum f = neg_ℤ (pos (min f.below sum_limit))

-- "the mean age of the latter as sum and count"
unfoldable pub mean_of : Figures → Mean
mean_of f = record { sum = f.sum; count = f.ages }
