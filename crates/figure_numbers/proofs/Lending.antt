-- The two calls on lent numbers.
use Rattle.std.specs.Prelude.{Result, Ok, Err}
use mathlib.Core.Path.{◌≡◌, refl, sym, ap, ◌∙◌}
use mathlib.Core.Bool.{Bool, true, false}
use mathlib.Core.List.{List, [], ◌++◌}
use Prim.Native.Nat.{ℕ, ◌≤◌, ◌<◌}
use native.Mathlib.Omega.{arith}
use borrow.Author.Tests.{le-leb, lt-leb}
use lib.IntN.{ℤ}
use lib.ListN.{length, take, drop, take-append-drop}
use lib.Seq.{take_at}
use Rattle.figures.specs.declared.Figures.{Figures}
use Rattle.figures.specs.declared.FeedFault.{FeedFault}
use Rattle.figures.specs.declared.FeedFault.TheVariants.{NotWhole, PastLimit}
use Rattle.figures.specs.Figures.{record_limit, figures_of}
use Rattle.figures.specs.Feed.{records_after, feed_told}
use Rattle.figures.specs.Contract.{fed_with, Feeds}
use Rattle.figures.proofs.Dividing.{after_most}
use Rattle.figure_numbers.specs.Contract.{with_figures, cleared, Clears, can_feed, handed_on, numbers_answer, numbers_fed, FeedsNumbers}
use Rattle.figure_numbers.specs.Numbers.{numbers_length, usable, figures_in, numbers_of}
use Rattle.figure_numbers.proofs.Places.{figures_back, figures_usable, figures_in_bounds, numbers_length_law}
use Rattle.figure_numbers.specs.declared.lent.Unusable.{Unusable as TooFew}
use Rattle.figure_numbers.specs.declared.lent.FeedNumbersFault.{FeedNumbersFault}
use Rattle.figure_numbers.specs.declared.lent.FeedNumbersFault.TheVariants.{Unusable, Feed}

-- ---- the figures of no records
pub clears_short : (old : List ℤ) {u : TooFew} → length old < numbers_length → Clears old old (Err u)
unfolding cleared
clears_short old h = let k = lt-leb numbers_length (length old) h in record { answer = sym k; numbers = rw k }

pub clears_long : (old new : List ℤ) (g : Figures) → numbers_length ≤ length old → g ≡ figures_of [] → new ≡ numbers_of g ++ drop numbers_length old → Clears old new (Ok tt)
unfolding cleared with_figures
clears_long old new g h e n = let k = le-leb numbers_length (length old) h in record { answer = sym k; numbers = rw (k, ← e) n }

-- ---- a batch
-- numbers of figures of records can be fed, and say these figures
module _ (old : List ℤ) (rs : List (List ℕ)) (h : length rs ≤ record_limit) (e : take numbers_length old ≡ numbers_of (figures_of rs)) where
  whole : old ≡ numbers_of (figures_of rs) ++ drop numbers_length old
  whole = sym (take-append-drop numbers_length old) ∙ ap (λ (l : List ℤ). l ++ drop numbers_length old) e

  records_usable : can_feed old ≡ true
  records_usable = ap can_feed whole ∙ figures_usable (figures_of rs) (figures_in_bounds rs h) (drop numbers_length old)

  records_back : figures_in old ≡ figures_of rs
  records_back = ap figures_in whole ∙ figures_back (figures_of rs) (figures_in_bounds rs h) (drop numbers_length old)

-- the numbers of the records that count
first_of : (g : Figures) (rs : List (List ℕ)) (new rest : List ℤ) → length rs ≤ record_limit → new ≡ numbers_of g ++ rest → g ≡ figures_of rs → take numbers_length new ≡ numbers_of (figures_of rs)
first_of g rs new rest h n e = rw (n, e) (take_at (numbers_of (figures_of rs)) rest 64 (numbers_length_law (figures_of rs) (figures_in_bounds rs h)))

can_not : (old : List ℤ) → length old < numbers_length → can_feed old ≡ false
unfolding can_feed
can_not old h = rw (lt-leb numbers_length (length old) h)

can_by : (old : List ℤ) → numbers_length ≤ length old → usable old ≡ can_feed old
unfolding can_feed
can_by old h = rw (le-leb numbers_length (length old) h)

module _ (old : List ℤ) (batch : List ℕ) where
  feeds_unusable : can_feed old ≡ false → FeedsNumbers old batch old (Err Unusable)
  unfolding numbers_answer numbers_fed
  feeds_unusable c = record {
    answer = rw c;
    numbers = refl;
    figures = λ rs h e. let k = records_usable old rs h e in let z : ◌≡◌ {A = ℕ} 0 1 = cc in absurd (omega arith);
  }

  pub feeds_short : length old < numbers_length → FeedsNumbers old batch old (Err Unusable)
  feeds_short h = feeds_unusable (can_not old h)

  module _ (l : numbers_length ≤ length old) {u : Bool} (eu : u ≡ usable old) where
    pub feeds_refused : u ≡ false → FeedsNumbers old batch old (Err Unusable)
    feeds_refused t = feeds_unusable (sym (can_by old l) ∙ sym eu ∙ t)

    module _ (t : u ≡ true) {g after : Figures} (eg : g ≡ figures_in old) {r : Result Unit FeedFault} (x : Feeds g batch after r) where
      can : can_feed old ≡ true
      can = sym (can_by old l) ∙ sym eu ∙ t

      answered : handed_on r ≡ numbers_answer old batch
      unfolding numbers_answer
      answered = rw (can, ← eg, ← x.answer)

      told : (rs : List (List ℕ)) → length rs ≤ record_limit → take numbers_length old ≡ numbers_of (figures_of rs) → after ≡ figures_of (records_after rs batch)
      told rs h e = x.figures rs h (eg ∙ records_back old rs h e)

      -- a batch that was looked at
      placed : {q : Result Unit FeedNumbersFault} → handed_on r ≡ q → (new : List ℤ) → new ≡ numbers_of after ++ drop numbers_length old → with_figures (fed_with (figures_in old) batch) old ≡ numbers_fed q old batch → FeedsNumbers old batch new q
      unfolding with_figures
      placed k new e n = record {
        answer = sym k ∙ answered;
        numbers = e ∙ rw (x.counted, eg) n;
        figures = λ rs h f. first_of after (records_after rs batch) new (drop numbers_length old) (after_most rs batch h) e (told rs h f);
      }

      pub feeds_whole : r ≡ Ok tt → (new : List ℤ) → new ≡ numbers_of after ++ drop numbers_length old → FeedsNumbers old batch new (Ok tt)
      unfolding numbers_fed feed_told
      feeds_whole k new e = placed (ap handed_on k) new e refl

      pub feeds_past : {f : FeedFault} {n : ℕ} → r ≡ Err f → f ≡ PastLimit n → (new : List ℤ) → new ≡ numbers_of after ++ drop numbers_length old → FeedsNumbers old batch new (Err (Feed (PastLimit n)))
      unfolding numbers_fed feed_told
      feeds_past k m new e = placed (ap handed_on (k ∙ ap Err m)) new e refl

      -- and one that was not
      pub feeds_left : {f : FeedFault} → r ≡ Err f → f ≡ NotWhole → FeedsNumbers old batch old (Err (Feed NotWhole))
      unfolding numbers_fed feed_told
      feeds_left k m =
          let w : r ≡ Err NotWhole = k ∙ ap Err m in
          record {
            answer = sym (ap handed_on w) ∙ answered;
            numbers = refl;
            figures = λ rs h e. e ∙ ap numbers_of (sym (x.unchanged w ∙ eg ∙ records_back old rs h e) ∙ told rs h e);
          }
