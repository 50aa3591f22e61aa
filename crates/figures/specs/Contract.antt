-- What contracts and laws cite beside the meaning: one record more, as the code counts it, what a batch leaves, and a series of batches.
use Rattle.std.specs.List.{list_all}
use Rattle.std.specs.Prelude.{ℕ, suc, min, ◌+◌, ◌-◌, ◌/◌, ◌%◌, ◌≤◌, ◌≡◌, Bool, cond, List, [], ◌∷◌, ◌++◌, eqb, length, get_or, set, None, Option, Some, Result, Err}
use Rattle.record.specs.declared.Fields.{Fields}
use Rattle.record.specs.Layout.{record_length}
use Rattle.record.specs.Stored.{stored_age}
use Rattle.figures.specs.declared.Figures.{Figures}
use Rattle.figures.specs.declared.FeedFault.{FeedFault}
use Rattle.figures.specs.declared.FeedFault.TheVariants.{NotWhole}
use Rattle.figures.specs.Figures.{record_limit, sum_limit, records_in, fields_shown, weekday_of, day_hour_of, below_zero, is_from_zero, from_zero, figures_of}
use Rattle.figures.specs.Feed.{feed_answer, records_after}

-- ---- one record more
-- a count and one more; of 1,000,000 records no count passes the limit
unfoldable pub more : ℕ → ℕ
more n = min (suc n) record_limit

-- a sum and an amount more
unfoldable pub summed : ℕ → ℕ → ℕ
summed sum x = min (sum + x) sum_limit

-- counts with one more at a place
unfoldable pub raised : List ℕ → ℕ → List ℕ
raised l i = set l i (more (get_or l i 0))

-- the figures with the fields of one record more
unfoldable pub with_fields : Figures → Fields → Figures
with_fields g f = record {
  answers = raised g.answers f.number;
  weekdays = raised g.weekdays (weekday_of f);
  hours = raised g.hours (day_hour_of f);
  below = summed g.below (below_zero f.number (stored_age f.age));
  sum = summed g.sum (from_zero f.number (stored_age f.age));
  ages = cond (is_from_zero f.number (stored_age f.age)) (more g.ages) g.ages;
  refused = g.refused;
  given = more g.given;
}

-- the figures with one refused record more
unfoldable pub with_refused : Figures → Figures
with_refused g = record {
  answers = g.answers;
  weekdays = g.weekdays;
  hours = g.hours;
  below = g.below;
  sum = g.sum;
  ages = g.ages;
  refused = more g.refused;
  given = more g.given;
}

abbrev pub with_shown : Figures → Option Fields → Figures
with_shown g (Some f) = with_fields g f
with_shown g None = with_refused g

-- the figures with one record more
unfoldable pub with_record : Figures → List ℕ → Figures
with_record g s = with_shown g (fields_shown s)

-- several records more, one after the other
unfoldable pub with_all : Figures → List (List ℕ) → Figures
with_all g [] = g
with_all g (s ∷ rs) = with_all (with_record g s) rs

-- ---- what a batch leaves
-- how many of so many records there is room for
unfoldable pub room_for : (given records : ℕ) → ℕ
room_for given records = min records (record_limit - given)

-- any figures after a batch
unfoldable pub fed_with : Figures → List ℕ → Figures
fed_with g batch = cond (eqb (length batch % record_length) 0) (with_all g (records_in (room_for g.given (length batch / record_length)) batch)) g

-- a batch was fed: its answer, and the figures after it
pub record Feeds (before : Figures) (batch : List ℕ) (after : Figures) (r : Result Unit FeedFault) : Type 0 where
  pub answer : r ≡ feed_answer before.given (length batch)
  -- figures of records become those of the records that count after the batch
  pub figures : (rs : List (List ℕ)) → length rs ≤ record_limit → before ≡ figures_of rs → after ≡ figures_of (records_after rs batch)
  -- a batch that is refused whole leaves every figure
  pub unchanged : r ≡ Err NotWhole → after ≡ before
  -- any figures, also those of no records, are counted on alike
  pub counted : after ≡ fed_with before batch

-- ---- a series of batches
-- each batch is fed to what the last one left
pub data Series : Figures → List (List ℕ) → Figures → Type 0 where
  done : {f : Figures} → Series f [] f
  then : {f g after : Figures} {batch : List ℕ} {batches : List (List ℕ)} {r : Result Unit FeedFault} → Feeds f batch after r → Series after batches g → Series f (batch ∷ batches) g

-- all bytes of the batches, one after the other
unfoldable pub all_bytes_of : List (List ℕ) → List ℕ
all_bytes_of [] = []
all_bytes_of (b ∷ bs) = b ++ all_bytes_of bs

-- batches of whole records
unfoldable pub whole_records : List (List ℕ) → Bool
whole_records bs = list_all (λ b. eqb (length b % record_length) 0) bs
