-- The figures one by one, and how large they can be.
use mathlib.Core.Path.{◌≡◌, sym}
use mathlib.Core.List.{List}
use Prim.Native.Nat.{ℕ, zero, suc, min, ◌≤◌, ◌<◌}
use native.Mathlib.Omega.{arith}
use lib.Dec.{eqb}
use lib.IntN.{pos, neg_ℤ, ◌-ℤ◌, +ℤ_idl}
use lib.ListN.{length, get_or, get_or-eq_default}
use Rattle.figures.specs.declared.Figures.{Figures}
use Rattle.figures.specs.Figures.{record_limit, sum_limit, how_many, weekday_of, day_hour_of, is_from_zero, figures_of, below_sum}
use Rattle.figures.proofs.Tables.{table_at}
use Rattle.figures.proofs.Counting.{many_most, below_most, from_most, refused_most}
use mir.Syntax.{w64}
use mir.Val.{SFits, to_z, of_z}
use mir.ValLaws.{to_z-of_z, to_z_pos}

pub past_end : (l : List ℕ) (i : ℕ) → length l ≤ i → 0 ≡ get_or l i 0
past_end l i h = sym (get_or-eq_default l 0 h)

-- ---- a sum turned round
module _ (n : ℕ) (h : n ≤ sum_limit) where
  as_signed : to_z w64 n ≡ pos n
  as_signed = to_z_pos w64 n (omega arith)

  below_fits : (k : ℕ) → k ≤ sum_limit → SFits w64 (neg_ℤ (pos k))
  below_fits zero g = record { sfits = omega arith }
  below_fits (suc k) g = record { sfits = omega arith }

  pub turned_fits : SFits w64 (pos 0 -ℤ to_z w64 n)
  turned_fits = rw (as_signed, +ℤ_idl (neg_ℤ (pos n))) (below_fits n h)

  turned_sum : to_z w64 (of_z w64 (pos 0 -ℤ to_z w64 n)) ≡ neg_ℤ (pos n)
  turned_sum = rw (as_signed, +ℤ_idl (neg_ℤ (pos n))) (to_z-of_z w64 (neg_ℤ (pos n)) (below_fits n h))

  pub sum_of : (g : Figures) → n ≡ min g.below sum_limit → to_z w64 (of_z w64 (pos 0 -ℤ to_z w64 n)) ≡ below_sum g
  unfolding below_sum
  sum_of g e = rw (← e) turned_sum

-- ---- a count is that of its key
module _ (rs : List (List ℕ)) where
  pub answers_at : (n : ℕ) → n < 24 → get_or (figures_of rs).answers n 0 ≡ how_many (λ f. eqb f.number n) rs
  unfolding figures_of
  answers_at n h = table_at 24 n (λ i. how_many (λ f. eqb f.number i) rs) h

  pub weekdays_at : (d : ℕ) → d < 7 → get_or (figures_of rs).weekdays d 0 ≡ how_many (λ f. eqb (weekday_of f) d) rs
  unfolding figures_of
  weekdays_at d h = table_at 7 d (λ i. how_many (λ f. eqb (weekday_of f) i) rs) h

  pub hours_at : (o : ℕ) → o < 24 → get_or (figures_of rs).hours o 0 ≡ how_many (λ f. eqb (day_hour_of f) o) rs
  unfolding figures_of
  hours_at o h = table_at 24 o (λ i. how_many (λ f. eqb (day_hour_of f) i) rs) h

  -- nothing overflows: the sums of up to 1,000,000 records, and the counts beside them
  pub sums_fit : length rs ≤ record_limit → ((figures_of rs).below ≤ sum_limit) × ((figures_of rs).sum ≤ sum_limit) × ((figures_of rs).ages ≤ length rs) × ((figures_of rs).refused ≤ length rs)
  unfolding figures_of
  sums_fit h =
      let b = below_most rs in
      let p = from_most rs in
      (omega arith, omega arith, many_most (λ f. is_from_zero f.number f.age) rs, refused_most rs)
