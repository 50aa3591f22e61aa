-- The calls on figures, each as a whole. Assumes nothing.
use Rattle.std.specs.Prelude.{Ok, Err, Result, is_ok, leb}
use mathlib.Core.Path.{◌≡◌, refl, sym, ap, ◌∙◌}
use mathlib.Core.Bool.{true, false}
use mathlib.Core.List.{List, [], ◌∷◌}
use Prim.Native.Nat.{ℕ, ◌≤◌}
use native.Mathlib.Omega.{arith}
use borrow.Author.Tests.{eq-eqb, ne_eqb}
use lib.IntN.{ℤ}
use lib.ListN.{length, drop, set}
use Rattle.figures.specs.declared.FeedFault.{FeedFault}
use Rattle.figures.specs.Feed.{feed_told}
use Rattle.figure_numbers.specs.declared.lent.Unusable.{Unusable as TooFew}
use Rattle.figure_numbers.specs.declared.lent.FeedNumbersFault.{FeedNumbersFault}
use Rattle.figure_numbers.specs.declared.lent.FeedNumbersFault.TheVariants.{Unusable, Feed}
use Rattle.figure_numbers.specs.Numbers.{numbers_length}
use Rattle.figure_numbers.specs.Contract.{Clears, FeedsNumbers}
use Rattle.supertab_c.specs.Call.{short_report}
use Rattle.supertab_c.specs.Figures.{new_numbers, new_call, fed_told, past_after, fed, tells_fed, feed_call, CallFeeds}

-- ---- new figures
module _ (old new : List ℤ) {r : Result Unit TooFew} (x : Clears old new r) where
  pub new_done : {u : Unit} → r ≡ Ok u → new_numbers 0 new ≡ new_call old
  unfolding new_call
  new_done e = let k : leb numbers_length (length old) ≡ true = sym x.answer ∙ ap is_ok e in rw (k, x.numbers)

  pub new_short : {u : TooFew} → r ≡ Err u → new_numbers short_report new ≡ new_call old
  unfolding new_call
  new_short e = let k : leb numbers_length (length old) ≡ false = sym x.answer ∙ ap is_ok e in rw (k, x.numbers)

-- a number stored at the front
pub first_set : (old : List ℤ) (x : ℤ) → 1 ≤ length old → set old 0 x ≡ x ∷ drop 1 old
first_set [] x h = absurd (omega arith)
first_set (y ∷ old) x h = refl

-- ---- a batch
module _ (old : List ℤ) (batch : List ℕ) (past : List ℤ) where
  pub feed_short : length past ≡ 0 → CallFeeds old batch past short_report old past
  unfolding feed_call
  feed_short e = record { call = rw (eq-eqb (length past) 0 e); figures = λ h. absurd (omega arith) }

  module _ (l : length past ≡ 0 → ⊥) {q : Result Unit FeedNumbersFault} {new : List ℤ} (x : FeedsNumbers old batch new q) where
    told : feed_call old batch past ≡ fed (fed_told q).number new (past_after (fed_told q).past past)
    unfolding feed_call tells_fed
    told = let a = x.answer in let n = x.numbers in rw (ne_eqb (length past) 0 l, ← a, ← n)

    pub feed_unusable : {y : FeedNumbersFault} → q ≡ Err y → y ≡ Unusable → CallFeeds old batch past short_report new past
    unfolding fed_told
    feed_unusable e k = let m : q ≡ Err Unusable = e ∙ ap Err k in record { call = sym (told ∙ rw m); figures = λ h. x.figures }

    pub feed_done : {p : List ℤ} → q ≡ Ok tt → p ≡ past_after (feed_told (Ok tt)).past past → CallFeeds old batch past 0 new p
    unfolding fed_told feed_told
    feed_done e ep = record { call = sym (told ∙ rw (e, ← ep)); figures = λ h. x.figures }

    pub feed_refused : {y : FeedNumbersFault} {f : FeedFault} {n : ℕ} {p : List ℤ} → q ≡ Err y → y ≡ Feed f → n ≡ (feed_told (Err f)).number → p ≡ past_after (feed_told (Err f)).past past → CallFeeds old batch past n new p
    unfolding fed_told
    feed_refused {y} {f} e k en ep = let m : q ≡ Err (Feed f) = e ∙ ap Err k in record { call = sym (told ∙ rw (m, ← en, ← ep)); figures = λ h. x.figures }
