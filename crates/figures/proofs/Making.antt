-- The counts and the refused records make the number given (02 (x)).
use Rattle.std.specs.Prelude.{None, Some}
use mathlib.Core.Path.{◌≡◌, refl}
use mathlib.Core.Bool.{Bool, cond}
use mathlib.Core.List.{List, [], ◌∷◌}
use mathlib.Core.Logic.{◌⊎◌, inl, inr}
use Prim.Native.Nat.{ℕ, suc, ◌+◌, ◌<◌}
use native.Mathlib.Omega.{arith}
use borrow.Author.Tests.{eq-eqb, ne_eqb}
use lib.Dec.{eqb}
use lib.ListN.{length}
use Rattle.text.specs.Lists.{count}
use Rattle.record.specs.declared.Fields.{Fields}
use Rattle.record.proofs.Keeping.{known_most}
use Rattle.record.proofs.RoundTrip.{Storable}
use Rattle.figures.specs.Figures.{fields_shown, passes_test, is_refused, how_many, refused_of, weekday_of, day_hour_of, table, figures_of}
use Rattle.figures.proofs.Tables.{OneMore, table_same, sum_of, sum_more, sum_none}
use Rattle.figures.proofs.Counting.{count_cons, shown_known, cases}

many_cons : (test : Fields → Bool) (s : List ℕ) (rs : List (List ℕ)) → how_many test (s ∷ rs) ≡ how_many test rs + cond (passes_test test (fields_shown s)) 1 0
unfolding how_many
many_cons test s rs = count_cons (λ x. passes_test test (fields_shown x)) s rs

refused_cons : (s : List ℕ) (rs : List (List ℕ)) → refused_of (s ∷ rs) ≡ refused_of rs + cond (is_refused (fields_shown s)) 1 0
unfolding refused_of
refused_cons s rs = count_cons (λ x. is_refused (fields_shown x)) s rs

module _ (n : ℕ) (key : Fields → ℕ) (low : (f : Fields) → Storable f → key f < n) where
  -- how many have each key
  keyed : List (List ℕ) → ℕ → ℕ
  keyed rs i = how_many (λ q. eqb (key q) i) rs

  none_keyed : sum_of (table n (keyed [])) + refused_of [] ≡ 0
  unfolding keyed how_many refused_of count
  none_keyed = omega (arith, sum_none n)

  module _ (s : List ℕ) (rs : List (List ℕ)) (i : sum_of (table n (keyed rs)) + refused_of rs ≡ length rs) where
    keyed_more : (f : Fields) → fields_shown s ≡ Some f → OneMore (key f) (keyed rs) (keyed (s ∷ rs))
    unfolding keyed
    keyed_more f e = record {
      here = rw (many_cons (λ q. eqb (key q) (key f)) s rs, e, eq-eqb (key f) (key f) refl);
      there = λ j h. rw (many_cons (λ q. eqb (key q) j) s rs, e, ne_eqb (key f) j h) (omega arith);
    }

    keyed_same : fields_shown s ≡ None → (j : ℕ) → keyed (s ∷ rs) j ≡ keyed rs j
    unfolding keyed
    keyed_same e j = rw (many_cons (λ q. eqb (key q) j) s rs, e) (omega arith)

    counts_on : ((f : Fields) × (fields_shown s ≡ Some f)) ⊎ (fields_shown s ≡ None) → sum_of (table n (keyed (s ∷ rs))) + refused_of (s ∷ rs) ≡ suc (length rs)
    counts_on (inl p) =
        let k = sum_more n (key p.0) (keyed rs) (keyed (s ∷ rs)) (low p.0 (shown_known s p.0 p.1)) (keyed_more p.0 p.1) in
        rw (refused_cons s rs, p.1, k) (omega arith)
    counts_on (inr e) =
        let k = table_same n (keyed rs) (keyed (s ∷ rs)) (keyed_same e) in
        rw (refused_cons s rs, e, ← k) (omega arith)

  counts_make : (rs : List (List ℕ)) → sum_of (table n (keyed rs)) + refused_of rs ≡ length rs
  counts_make [] = none_keyed
  counts_make (s ∷ rs) = counts_on s rs (counts_make rs) (cases (fields_shown s))

module _ (rs : List (List ℕ)) where
  -- "The answer counts and the refused records together make the number given"
  pub answers_make : sum_of (figures_of rs).answers + (figures_of rs).refused ≡ (figures_of rs).given
  unfolding figures_of keyed
  answers_make = counts_make 24 (λ f. f.number) (λ f k. omega (arith, known_most f.number k.number)) rs

  -- "so do weekday counts and refused ones"
  pub weekdays_make : sum_of (figures_of rs).weekdays + (figures_of rs).refused ≡ (figures_of rs).given
  unfolding figures_of keyed
  weekdays_make = counts_make 7 weekday_of (λ f k. omega (arith, k.minute)) rs

  -- and the hours
  pub hours_make : sum_of (figures_of rs).hours + (figures_of rs).refused ≡ (figures_of rs).given
  unfolding figures_of keyed
  hours_make = counts_make 24 day_hour_of (λ f k. omega arith) rs
