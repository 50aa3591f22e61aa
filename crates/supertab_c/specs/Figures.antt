-- What the calls for C on figures give (02 (x), include/supertab.h).
use Rattle.std.specs.Prelude.{ℕ, ◌≤◌, ◌≡◌, cond, List, ◌∷◌, eqb, leb, ℤ, length, take, drop, None, Option, Some, Result, Ok, Err}
use Rattle.figures.specs.Figures.{record_limit, figures_of}
use Rattle.figures.specs.Feed.{records_after, BatchTold, feed_told}
use Rattle.figure_numbers.specs.declared.lent.FeedNumbersFault.{FeedNumbersFault}
use Rattle.figure_numbers.specs.declared.lent.FeedNumbersFault.TheVariants.{Unusable, Feed}
use Rattle.figure_numbers.specs.Numbers.{numbers_length, numbers_of}
use Rattle.figure_numbers.specs.Contract.{cleared, numbers_answer, numbers_fed}
use Rattle.supertab_c.specs.Report.{counted}
use Rattle.supertab_c.specs.Call.{short_report}

-- ---- new figures
-- the result of the call and the lent numbers
pub record New : Type 0 where
  pub number : ℕ
  pub figures : List ℤ

-- this result, with these
abbrev pub new_numbers : ℕ → List ℤ → New
new_numbers n l = record { number = n; figures = l }

-- 255 for fewer than 64 numbers, which stay
unfoldable pub new_call : List ℤ → New
new_call l = new_numbers (cond (leb numbers_length (length l)) 0 short_report) (cleared l)

-- ---- a batch
-- the number of every answer, and how many records lie past the limit where the batch was looked at
unfoldable pub fed_told : Result Unit FeedNumbersFault → BatchTold
fed_told (Err Unusable) = record { number = short_report; past = None }
fed_told (Err (Feed f)) = feed_told (Err f)
fed_told (Ok done) = feed_told (Ok done)

-- what is told of the records past the limit stands at the front of the lent numbers, whose later ones stay
abbrev pub past_after : Option ℕ → List ℤ → List ℤ
past_after (Some n) old = counted n ∷ drop 1 old
past_after None old = old

-- the result of the call, the figures and the records refused
pub record FeedCall : Type 0 where
  pub number : ℕ
  pub figures : List ℤ
  pub refused : List ℤ

-- this result, with these two
abbrev pub fed : ℕ → List ℤ → List ℤ → FeedCall
fed n l p = record { number = n; figures = l; refused = p }

-- the answer to a batch, as the call tells it
unfoldable pub tells_fed : Result Unit FeedNumbersFault → List ℤ → List ℕ → List ℤ → FeedCall
tells_fed a old batch past = fed (fed_told a).number (numbers_fed a old batch) (past_after (fed_told a).past past)

-- 255 first, where there is no room to tell the records past the limit, and then nothing is written
unfoldable pub feed_call : List ℤ → List ℕ → List ℤ → FeedCall
feed_call old batch past = cond (eqb (length past) 0) (fed short_report old past) (tells_fed (numbers_answer old batch) old batch past)

-- a batch was fed by the call
pub record CallFeeds (old : List ℤ) (batch : List ℕ) (past : List ℤ) (r : ℕ) (new told : List ℤ) : Type 0 where
  pub call : fed r new told ≡ feed_call old batch past
  -- numbers of figures of records become those of the records that count after the batch
  pub figures : 1 ≤ length past → (rs : List (List ℕ)) → length rs ≤ record_limit → take numbers_length old ≡ numbers_of (figures_of rs) → take numbers_length new ≡ numbers_of (figures_of (records_after rs batch))
