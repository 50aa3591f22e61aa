-- What the calls on lent numbers leave (02 (x)).
use Rattle.std.specs.Prelude.{ℕ, ◌≤◌, ◌≡◌, Bool, cond, ◌&&◌, List, [], ◌++◌, leb, ℤ, length, take, drop, None, Option, Some, Result, Ok, Err, is_ok}
use Rattle.figures.specs.declared.Figures.{Figures}
use Rattle.figures.specs.Figures.{record_limit, figures_of}
use Rattle.figures.specs.Feed.{feed_answer, records_after, feed_told}
use Rattle.figures.specs.Contract.{fed_with}
use Rattle.figure_numbers.specs.declared.lent.Unusable.{Unusable as TooFew}
use Rattle.figure_numbers.specs.declared.lent.FeedNumbersFault.{FeedNumbersFault}
use Rattle.figure_numbers.specs.declared.lent.FeedNumbersFault.TheVariants.{Unusable, Feed}
use Rattle.figures.specs.declared.FeedFault.{FeedFault}
use Rattle.figure_numbers.specs.Numbers.{numbers_length, usable, figures_in, numbers_of}

-- figures at the front of lent numbers, whose later ones stay
unfoldable pub with_figures : Figures → List ℤ → List ℤ
with_figures g l = numbers_of g ++ drop numbers_length l

-- "supertab_figures_new(figures)": the figures of no records, where there are 64 numbers
unfoldable pub cleared : List ℤ → List ℤ
cleared l = cond (leb numbers_length (length l)) (with_figures (figures_of []) l) l

pub record Clears (old new : List ℤ) (r : Result Unit TooFew) : Type 0 where
  pub answer : is_ok r ≡ leb numbers_length (length old)
  pub numbers : new ≡ cleared old

-- "fewer than 64, a count outside .. or a sum outside ..: 255 and nothing changes"
unfoldable pub can_feed : List ℤ → Bool
can_feed l = leb numbers_length (length l) && usable l

-- what the figures answer to a batch, as the lent numbers hand it on
abbrev pub handed_on : Result Unit FeedFault → Result Unit FeedNumbersFault
handed_on (Ok done) = Ok done
handed_on (Err f) = Err (Feed f)

-- the answer to a batch
unfoldable pub numbers_answer : List ℤ → List ℕ → Result Unit FeedNumbersFault
numbers_answer l batch = cond (can_feed l) (handed_on (feed_answer (figures_in l).given (length batch))) (Err Unusable)

-- numbers are written where the batch was looked at
abbrev pub figures_where : Option ℕ → Figures → List ℤ → List ℤ
figures_where (Some n) g l = with_figures g l
figures_where None g l = l

-- the numbers after a batch
unfoldable pub numbers_fed : Result Unit FeedNumbersFault → List ℤ → List ℕ → List ℤ
numbers_fed (Err Unusable) l batch = l
numbers_fed (Err (Feed f)) l batch = figures_where (feed_told (Err f)).past (fed_with (figures_in l) batch) l
numbers_fed (Ok done) l batch = figures_where (feed_told (Ok done)).past (fed_with (figures_in l) batch) l

-- a batch was fed to lent numbers: its answer, and the numbers after it
pub record FeedsNumbers (old : List ℤ) (batch : List ℕ) (new : List ℤ) (r : Result Unit FeedNumbersFault) : Type 0 where
  pub answer : r ≡ numbers_answer old batch
  pub numbers : new ≡ numbers_fed r old batch
  -- numbers of figures of records become those of the records that count after the batch
  pub figures : (rs : List (List ℕ)) → length rs ≤ record_limit → take numbers_length old ≡ numbers_of (figures_of rs) → take numbers_length new ≡ numbers_of (figures_of (records_after rs batch))
