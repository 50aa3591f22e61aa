-- The 64 numbers of figures, read back as these figures.
use Rattle.std.specs.List.{list_all}
use mathlib.Core.Path.{◌≡◌, refl, sym, ap, ◌∙◌}
use mathlib.Core.Bool.{Bool, true}
use mathlib.Core.List.{List, [], ◌∷◌, ◌++◌, map, append_assoc}
use Prim.Native.Nat.{ℕ, zero, suc, min, ◌+◌, ◌≤◌}
use native.Mathlib.Omega.{arith}
use borrow.Author.Tests.{le-leb, leb-true}
use lib.Dec.{eqb, leb}
use lib.IntN.{ℤ, pos, neg_ℤ}
use lib.ListN.{length, length-append, length-map, take, drop}
use lib.Seq.{take_at, drop_at, drop-append-add, get_or-append-add}
use Rattle.text.proofs.Laws.{both_true, both_of}
use Rattle.text.proofs.Lists.{all_append}
use Rattle.figures.specs.Figures.{record_limit, sum_limit, how_many, weekday_of, day_hour_of, table, figures_of, below_sum}
use Rattle.figures.specs.declared.Figures.{Figures}
use Rattle.figures.proofs.Counting.{many_most}
use Rattle.figures.proofs.Reporting.{sums_fit}
use Rattle.figure_numbers.specs.Contract.{can_feed}
use Rattle.figure_numbers.specs.Numbers.{numbers_length, is_between, is_count, number_at, usable, nearest, count_in, sum_in, below_in, figures_in, sum_number, totals_of, numbers_of}

-- ---- counts and sums back
-- every count of a list is within the limit
abbrev pub in_limit : List ℕ → Bool
in_limit l = list_all (λ n. leb n record_limit) l

near : (limit n : ℕ) → n ≤ limit → nearest limit (pos n) ≡ n
unfolding nearest
near limit n h = omega arith

counts_back : (l : List ℕ) → in_limit l ≡ true → map count_in (map pos l) ≡ l
counts_back [] e = refl
counts_back (n ∷ l) e =
    let k = both_true (leb n record_limit) (in_limit l) e in
    let a = near record_limit n (leb-true n record_limit k.0) in
    rw (a, counts_back l k.1)

counts_good : (l : List ℕ) → in_limit l ≡ true → list_all is_count (map pos l) ≡ true
counts_good [] e = refl
counts_good (n ∷ l) e = let k = both_true (leb n record_limit) (in_limit l) e in rw (k.0, counts_good l k.1, le-leb 0 n (omega arith))

negated : (n : ℕ) → neg_ℤ (neg_ℤ (pos n)) ≡ pos n
negated zero = refl
negated (suc n) = refl

below_between : (n : ℕ) → n ≤ sum_limit → is_between (neg_ℤ (pos sum_limit)) (pos 0) (neg_ℤ (pos n)) ≡ true
below_between zero h = refl
below_between (suc n) h = rw (le-leb n 16777214999999 (omega arith))

-- ---- figures with all counts and sums within their limits
pub record InBounds (g : Figures) : Type 0 where
  pub answers : (length g.answers ≡ 24) × (in_limit g.answers ≡ true)
  pub weekdays : (length g.weekdays ≡ 7) × (in_limit g.weekdays ≡ true)
  pub hours : (length g.hours ≡ 24) × (in_limit g.hours ≡ true)
  pub below : g.below ≤ sum_limit
  pub sum : g.sum ≤ sum_limit
  pub ages : g.ages ≤ record_limit
  pub refused : g.refused ≤ record_limit
  pub given : g.given ≤ record_limit

module _ (g : Figures) (b : InBounds g) (rest : List ℤ) where
  answers : List ℤ
  answers = map pos g.answers

  weekdays : List ℤ
  weekdays = map pos g.weekdays

  hours : List ℤ
  hours = map pos g.hours

  unused : List ℤ
  unused = pos 0 ∷ []

  -- all that stands before the totals
  front : List ℤ
  front = answers ++ weekdays ++ unused ++ hours

  numbers : List ℤ
  numbers = numbers_of g ++ rest

  answers_length : length answers ≡ 24
  unfolding answers
  answers_length = length-map g.answers pos ∙ b.answers.0

  weekdays_length : length weekdays ≡ 7
  unfolding weekdays
  weekdays_length = length-map g.weekdays pos ∙ b.weekdays.0

  hours_length : length hours ≡ 24
  unfolding hours
  hours_length = length-map g.hours pos ∙ b.hours.0

  two_length : length (answers ++ weekdays) ≡ 31
  two_length = length-append answers weekdays ∙ rw (answers_length, weekdays_length)

  three_length : length (answers ++ weekdays ++ unused) ≡ 32
  unfolding unused
  three_length = length-append (answers ++ weekdays) unused ∙ rw two_length

  front_length : length front ≡ 56
  unfolding front
  front_length = length-append (answers ++ weekdays ++ unused) hours ∙ rw (three_length, hours_length)

  -- the numbers, cut before each group
  at_totals : numbers ≡ front ++ (totals_of g ++ rest)
  unfolding numbers front numbers_of answers weekdays unused hours
  at_totals = append_assoc front (totals_of g) rest

  at_hours : numbers ≡ (answers ++ weekdays ++ unused) ++ (hours ++ (totals_of g ++ rest))
  unfolding front
  at_hours = at_totals ∙ append_assoc (answers ++ weekdays ++ unused) hours (totals_of g ++ rest)

  at_unused : numbers ≡ (answers ++ weekdays) ++ (unused ++ (hours ++ (totals_of g ++ rest)))
  at_unused = at_hours ∙ append_assoc (answers ++ weekdays) unused (hours ++ (totals_of g ++ rest))

  at_weekdays : numbers ≡ answers ++ (weekdays ++ (unused ++ (hours ++ (totals_of g ++ rest))))
  at_weekdays = at_unused ∙ append_assoc answers weekdays (unused ++ (hours ++ (totals_of g ++ rest)))

  first_31 : take 31 numbers ≡ answers ++ weekdays
  first_31 = rw at_unused (take_at (answers ++ weekdays) (unused ++ (hours ++ (totals_of g ++ rest))) 31 two_length)

  first_24 : take 24 numbers ≡ answers
  first_24 = rw at_weekdays (take_at answers (weekdays ++ (unused ++ (hours ++ (totals_of g ++ rest)))) 24 answers_length)

  next_7 : take 7 (drop 24 numbers) ≡ weekdays
  next_7 =
      let d = drop_at answers (weekdays ++ (unused ++ (hours ++ (totals_of g ++ rest)))) 24 answers_length in
      rw (at_weekdays, d) (take_at weekdays (unused ++ (hours ++ (totals_of g ++ rest))) 7 weekdays_length)

  last_24 : take 24 (drop 32 numbers) ≡ hours
  last_24 =
      let d = drop_at (answers ++ weekdays ++ unused) (hours ++ (totals_of g ++ rest)) 32 three_length in
      rw (at_hours, d) (take_at hours (totals_of g ++ rest) 24 hours_length)

  total_at : (j : ℕ) → number_at numbers (56 + j) ≡ number_at (totals_of g ++ rest) j
  total_at j = rw (at_totals, ← front_length) (get_or-append-add front (totals_of g ++ rest) j (pos 0))

  totals_3 : take 3 (drop 58 numbers) ≡ pos g.ages ∷ pos g.refused ∷ pos g.given ∷ []
  unfolding totals_of
  totals_3 =
      let d : drop 58 numbers ≡ drop 2 (totals_of g ++ rest) =
      ap (λ (l : List ℤ). drop 58 l) at_totals ∙ ap (λ (k : ℕ). drop (k + 2) (front ++ (totals_of g ++ rest))) (sym front_length) ∙ drop-append-add front (totals_of g ++ rest) 2 in
      ap (λ (l : List ℤ). take 3 l) d

  below_is : number_at numbers 56 ≡ neg_ℤ (pos g.below)
  unfolding totals_of below_sum
  below_is = let e : min g.below sum_limit ≡ g.below = omega (arith, b.below) in total_at 0 ∙ rw e

  sum_is : number_at numbers 57 ≡ pos g.sum
  unfolding totals_of sum_number
  sum_is = let e : min g.sum sum_limit ≡ g.sum = omega (arith, b.sum) in total_at 1 ∙ rw e

  ages_is : number_at numbers 58 ≡ pos g.ages
  unfolding totals_of
  ages_is = total_at 2

  refused_is : number_at numbers 59 ≡ pos g.refused
  unfolding totals_of
  refused_is = total_at 3

  given_is : number_at numbers 60 ≡ pos g.given
  unfolding totals_of
  given_is = total_at 4

  below_back : below_in (number_at numbers 56) ≡ g.below
  below_back = rw (below_is, negated g.below) (near sum_limit g.below b.below)

  sum_back : sum_in (number_at numbers 57) ≡ g.sum
  sum_back = rw sum_is (near sum_limit g.sum b.sum)

  ages_back : count_in (number_at numbers 58) ≡ g.ages
  ages_back = rw ages_is (near record_limit g.ages b.ages)

  refused_back : count_in (number_at numbers 59) ≡ g.refused
  refused_back = rw refused_is (near record_limit g.refused b.refused)

  given_back : count_in (number_at numbers 60) ≡ g.given
  given_back = rw given_is (near record_limit g.given b.given)

  -- the figures that the numbers say are these
  pub figures_back : figures_in (numbers_of g ++ rest) ≡ g
  unfolding figures_in answers weekdays hours numbers
  figures_back =
      let a : map count_in (take 24 numbers) ≡ g.answers = rw first_24 (counts_back g.answers b.answers.1) in
      let w : map count_in (take 7 (drop 24 numbers)) ≡ g.weekdays = rw next_7 (counts_back g.weekdays b.weekdays.1) in
      let h : map count_in (take 24 (drop 32 numbers)) ≡ g.hours = rw last_24 (counts_back g.hours b.hours.1) in
      rw (a, w, h, below_back, sum_back, ages_back, refused_back, given_back)

  totals_length : 8 ≤ length (totals_of g ++ rest)
  unfolding totals_of
  totals_length = omega arith

  long_enough : numbers_length ≤ length numbers
  long_enough = rw (at_totals, length-append front (totals_of g ++ rest), front_length) (omega (arith, totals_length))

  first_good : list_all is_count (take 31 numbers) ≡ true
  unfolding answers weekdays
  first_good = rw (first_31, all_append is_count answers weekdays) (both_of (counts_good g.answers b.answers.1) (counts_good g.weekdays b.weekdays.1))

  hours_good : list_all is_count (take 24 (drop 32 numbers)) ≡ true
  unfolding hours
  hours_good = rw last_24 (counts_good g.hours b.hours.1)

  below_good : is_between (neg_ℤ (pos sum_limit)) (pos 0) (number_at numbers 56) ≡ true
  below_good = rw below_is (below_between g.below b.below)

  sum_good : is_between (pos 0) (pos sum_limit) (number_at numbers 57) ≡ true
  sum_good = rw (sum_is, le-leb 0 g.sum (omega arith), le-leb g.sum sum_limit b.sum)

  counts_3 : list_all is_count (take 3 (drop 58 numbers)) ≡ true
  counts_3 =
      rw (
        totals_3,
        le-leb 0 g.ages (omega arith),
        le-leb g.ages record_limit b.ages,
        le-leb 0 g.refused (omega arith),
        le-leb g.refused record_limit b.refused,
        le-leb 0 g.given (omega arith),
        le-leb g.given record_limit b.given,
      )

  -- and they can be figures
  pub figures_usable : can_feed (numbers_of g ++ rest) ≡ true
  unfolding can_feed usable numbers
  figures_usable = both_of (le-leb numbers_length (length numbers) long_enough) (both_of (both_of (both_of (both_of first_good hours_good) below_good) sum_good) counts_3)

-- ---- the figures of records
table_length : (n : ℕ) (f : ℕ → ℕ) → length (table n f) ≡ n
unfolding table
table_length zero f = refl
table_length (suc n) f = ap suc (table_length n (λ i. f (suc i)))

table_in : (n : ℕ) (f : ℕ → ℕ) → ((i : ℕ) → f i ≤ record_limit) → in_limit (table n f) ≡ true
unfolding table
table_in zero f h = refl
table_in (suc n) f h = both_of (le-leb (f 0) record_limit (h 0)) (table_in n (λ i. f (suc i)) (λ i. h (suc i)))

pub figures_in_bounds : (rs : List (List ℕ)) → length rs ≤ record_limit → InBounds (figures_of rs)
unfolding figures_of
figures_in_bounds rs h =
    let k = sums_fit rs h in
    record {
      answers = (table_length 24 (λ n. how_many (λ f. eqb f.number n) rs), table_in 24 (λ n. how_many (λ f. eqb f.number n) rs) (λ n. omega (arith, many_most (λ f. eqb f.number n) rs)));
      weekdays = (table_length 7 (λ d. how_many (λ f. eqb (weekday_of f) d) rs), table_in 7 (λ d. how_many (λ f. eqb (weekday_of f) d) rs) (λ d. omega (arith, many_most (λ f. eqb (weekday_of f) d) rs)));
      hours = (table_length 24 (λ o. how_many (λ f. eqb (day_hour_of f) o) rs), table_in 24 (λ o. how_many (λ f. eqb (day_hour_of f) o) rs) (λ o. omega (arith, many_most (λ f. eqb (day_hour_of f) o) rs)));
      below = k.0;
      sum = k.1;
      ages = omega (arith, k.2);
      refused = omega (arith, k.3);
      given = h;
    }

pub numbers_length_law : (g : Figures) → InBounds g → length (numbers_of g) ≡ 64
unfolding numbers_of totals_of front answers weekdays unused hours
numbers_length_law g b = length-append (front g b []) (totals_of g) ∙ rw (front_length g b [])
