-- Tables of counts: one more at a place, and their sum.
use mathlib.Core.Path.{◌≡◌, refl, ap, ◌∙◌}
use mathlib.Core.List.{List, [], ◌∷◌}
use Prim.Native.Nat.{ℕ, zero, suc, ◌+◌, ◌<◌}
use native.Mathlib.Omega.{arith}
use lib.ListN.{get_or}
use Rattle.figures.specs.Figures.{record_limit, table}
use Rattle.figures.specs.Contract.{raised}
use Rattle.figures.proofs.Adding.{more_in}

-- g is f with one more at i
pub record OneMore (i : ℕ) (f g : ℕ → ℕ) : Type 0 where
  pub here : g i ≡ f i + 1
  pub there : (j : ℕ) → (i ≡ j → ⊥) → g j ≡ f j

pub table_same : (n : ℕ) (f g : ℕ → ℕ) → ((j : ℕ) → g j ≡ f j) → table n f ≡ table n g
unfolding table
table_same zero f g e = refl
table_same (suc n) f g e = rw (e 0) (ap (λ l. f 0 ∷ l) (table_same n (λ j. f (suc j)) (λ j. g (suc j)) (λ j. e (suc j))))

next_more : (i : ℕ) (f g : ℕ → ℕ) → OneMore (suc i) f g → OneMore i (λ j. f (suc j)) (λ j. g (suc j))
next_more i f g m = record { here = m.here; there = λ j h. m.there (suc j) (λ e. h (omega arith)) }

pub raised_table : (n i : ℕ) (f g : ℕ → ℕ) → i < n → f i < record_limit → OneMore i f g → raised (table n f) i ≡ table n g
unfolding raised table
raised_table zero i f g h k m = absurd (omega arith)
raised_table (suc n) zero f g h k m =
    let e = m.here ∙ more_in (f 0) k in
    let t = table_same n (λ j. f (suc j)) (λ j. g (suc j)) (λ j. m.there (suc j) (λ z. omega arith)) in
    rw (← e, t)
raised_table (suc n) (suc i) f g h k m =
    let e = m.there 0 (λ z. omega arith) in
    let t = raised_table n i (λ j. f (suc j)) (λ j. g (suc j)) (omega arith) k (next_more i f g m) in
    rw e (ap (λ l. f 0 ∷ l) t)

-- what stands at a place
pub table_at : (n i : ℕ) (f : ℕ → ℕ) → i < n → get_or (table n f) i 0 ≡ f i
unfolding table
table_at zero i f h = absurd (omega arith)
table_at (suc n) zero f h = refl
table_at (suc n) (suc i) f h = table_at n i (λ j. f (suc j)) (omega arith)

-- the sum of a list
unfoldable pub sum_of : List ℕ → ℕ
sum_of [] = 0
sum_of (x ∷ l) = x + sum_of l

pub sum_more : (n i : ℕ) (f g : ℕ → ℕ) → i < n → OneMore i f g → sum_of (table n g) ≡ sum_of (table n f) + 1
unfolding sum_of table
sum_more zero i f g h m = absurd (omega arith)
sum_more (suc n) zero f g h m =
    let t = table_same n (λ j. f (suc j)) (λ j. g (suc j)) (λ j. m.there (suc j) (λ z. omega arith)) in
    rw (m.here, ← t) (omega arith)
sum_more (suc n) (suc i) f g h m =
    rw (m.there 0 (λ z. omega arith), sum_more n i (λ j. f (suc j)) (λ j. g (suc j)) (omega arith) (next_more i f g m)) (omega arith)

pub sum_none : (n : ℕ) → sum_of (table n (λ j. 0)) ≡ 0
unfolding sum_of table
sum_none zero = refl
sum_none (suc n) = omega (arith, sum_none n)
