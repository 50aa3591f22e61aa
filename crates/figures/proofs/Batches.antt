-- Batches: the records of a list of bytes, and what counts of them after a batch (02 (x)).
use mathlib.Core.Path.{◌≡◌, refl, sym, ap, ◌∙◌}
use mathlib.Core.List.{List, ◌∷◌, ◌++◌}
use Prim.Native.Nat.{ℕ, zero, suc, min, ◌+◌, ◌-◌, ◌*◌, ◌/◌, ◌%◌, ◌≤◌, ◌<◌}
use native.Mathlib.Omega.{arith}
use borrow.Author.Tests.{eq-eqb, ne_eqb, le-leb, lt-leb}
use lib.ListN.{length, take, drop}
use lib.Seq.{drop-drop, take-append-add}
use Rattle.figures.specs.declared.Figures.{Figures}
use Rattle.std.specs.Prelude.{Ok, Err}
use Rattle.figures.specs.declared.FeedFault.TheVariants.{NotWhole, PastLimit}
use Rattle.figures.specs.Figures.{record_limit, records_in, records_of, figures_of}
use Rattle.figures.specs.Feed.{feed_answer, first_records, records_after}
use Rattle.figures.specs.Contract.{with_record, with_all, room_for, fed_with, Feeds}
use Rattle.figures.proofs.Counting.{records_on}

-- ---- the loop over records
module _ (g : Figures) (s : List ℕ) (n : ℕ) where
  pub all_start : with_all g (records_in (n - 0) (drop (0 * 8) s)) ≡ with_all g (records_in n s)
  all_start = let a : n - 0 ≡ n = omega arith in rw a

  -- one record taken, k records in
  pub all_on : (k : ℕ) → k < n → with_all (with_record g (take (k * 8 + 8 - k * 8) (drop (k * 8) s))) (records_in (n - (k + 1)) (drop ((k + 1) * 8) s)) ≡ with_all g (records_in (n - k) (drop (k * 8) s))
  unfolding with_all records_in
  all_on k h =
      let a : n - k ≡ suc (n - (k + 1)) = omega arith in
      let b : k * 8 + 8 - k * 8 ≡ 8 = omega arith in
      let c : (k + 1) * 8 ≡ k * 8 + 8 = omega arith in
      rw (a, b, c, drop-drop 8 (k * 8) s)

  pub all_end : (k : ℕ) → n ≤ k → g ≡ with_all g (records_in (n - k) (drop (k * 8) s))
  unfolding with_all records_in
  all_end k h = let a : n - k ≡ 0 = omega arith in rw a

-- ---- the records of bytes
pub records_length : (k : ℕ) (s : List ℕ) → length (records_in k s) ≡ k
unfolding records_in
records_length zero s = refl
records_length (suc k) s = ap suc (records_length k (drop 8 s))

take_records : (n k : ℕ) (s : List ℕ) → take n (records_in k s) ≡ records_in (min k n) s
unfolding records_in
take_records zero k s = let a : min k 0 ≡ 0 = omega arith in rw a
take_records (suc n) zero s = let a : min 0 (suc n) ≡ 0 = omega arith in rw a
take_records (suc n) (suc k) s = let a : min (suc k) (suc n) ≡ suc (min k n) = omega arith in rw a (ap (λ l. take 8 s ∷ l) (take_records n k (drop 8 s)))

-- ---- what counts after a batch
pub whole_after : (rs : List (List ℕ)) (batch : List ℕ) → length batch % 8 ≡ 0 → records_after rs batch ≡ first_records (rs ++ records_of batch)
unfolding records_after
whole_after rs batch w = rw (eq-eqb (length batch % 8) 0 w)

module _ (rs : List (List ℕ)) (batch : List ℕ) (h : length rs ≤ record_limit) where
  room_taken : first_records (rs ++ records_of batch) ≡ rs ++ records_in (room_for (length rs) (length batch / 8)) batch
  unfolding first_records records_of room_for
  room_taken =
      let a : record_limit ≡ length rs + (record_limit - length rs) = omega arith in
      ap (λ n. take n (rs ++ records_in (length batch / 8) batch)) a
      ∙ take-append-add rs (records_in (length batch / 8) batch) (record_limit - length rs)
      ∙ rw (take_records (record_limit - length rs) (length batch / 8) batch)

  room_fits : length rs + length (records_in (room_for (length rs) (length batch / 8)) batch) ≤ record_limit
  unfolding room_for
  room_fits = rw (records_length (min (length batch / 8) (record_limit - length rs)) batch) (omega arith)

  after_whole : length batch % 8 ≡ 0 → with_all (figures_of rs) (records_in (room_for (length rs) (length batch / 8)) batch) ≡ figures_of (records_after rs batch)
  after_whole w =
      records_on rs (records_in (room_for (length rs) (length batch / 8)) batch) room_fits
      ∙ ap figures_of (sym (whole_after rs batch w ∙ room_taken))

  after_not : (length batch % 8 ≡ 0 → ⊥) → figures_of rs ≡ figures_of (records_after rs batch)
  unfolding records_after
  after_not w = rw (ne_eqb (length batch % 8) 0 w)

pub given_of : (rs : List (List ℕ)) → (figures_of rs).given ≡ length rs
unfolding figures_of
given_of rs = refl

-- ---- what is promised of a batch
module _ (g : Figures) (batch : List ℕ) where
  pub feeds_not : (length batch % 8 ≡ 0 → ⊥) → Feeds g batch g (Err NotWhole)
  unfolding feed_answer fed_with
  feeds_not w = record {
    answer = rw (ne_eqb (length batch % 8) 0 w);
    figures = λ rs h e. e ∙ after_not rs batch h w;
    unchanged = λ e. refl;
    counted = rw (ne_eqb (length batch % 8) 0 w);
  }

  module _ (w : length batch % 8 ≡ 0) (after : Figures) (taken : ℕ) (m : taken ≡ room_for g.given (length batch / 8)) (q : after ≡ with_all g (records_in taken batch)) where
    after_records : (rs : List (List ℕ)) → length rs ≤ record_limit → g ≡ figures_of rs → after ≡ figures_of (records_after rs batch)
    after_records rs h e =
        let k : g.given ≡ length rs = ap (λ x. x.given) e ∙ given_of rs in
        let n : taken ≡ room_for (length rs) (length batch / 8) = rw (← k) m in
        q ∙ rw (e, n) (after_whole rs batch h w)

    after_counted : after ≡ fed_with g batch
    unfolding fed_with
    after_counted = rw (eq-eqb (length batch % 8) 0 w, ← m) q

    taken_min : taken ≡ min (length batch / 8) (record_limit - g.given)
    unfolding room_for
    taken_min = m

    pub feeds_past : taken < length batch / 8 → Feeds g batch after (Err (PastLimit (length batch / 8 - taken)))
    unfolding feed_answer
    feeds_past h =
        let t = taken_min in
        let l : record_limit - g.given < length batch / 8 = omega arith in
        let n : taken ≡ record_limit - g.given = omega arith in
        record {
          answer = rw (eq-eqb (length batch % 8) 0 w, lt-leb (length batch / 8) (record_limit - g.given) l, n);
          figures = after_records;
          unchanged = λ e. let z : ◌≡◌ {A = ℕ} 0 1 = cc in absurd (omega arith);
          counted = after_counted;
        }

    pub feeds_all : length batch / 8 ≤ taken → Feeds g batch after (Ok tt)
    unfolding feed_answer
    feeds_all h =
        let t = taken_min in
        let l : length batch / 8 ≤ record_limit - g.given = omega arith in
        record {
          answer = rw (eq-eqb (length batch % 8) 0 w, le-leb (length batch / 8) (record_limit - g.given) l);
          figures = after_records;
          unchanged = λ e. let z : ◌≡◌ {A = ℕ} 0 1 = cc in absurd (omega arith);
          counted = after_counted;
        }
