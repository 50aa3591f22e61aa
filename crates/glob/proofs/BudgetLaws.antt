-- The laws of the budget of tests (02 (iii)). Assumes nothing.
use mathlib.Core.Path.{◌≡◌}
use Prim.Native.Nat.{ℕ, ◌+◌, ◌*◌, ◌-◌, ◌≤◌, ◌<◌}
use native.Mathlib.Nat.{le-mul_of_pos_right}
use native.Mathlib.Omega.{arith}
use Rattle.glob.specs.Contract.{worth, Usable, OneLess, Covers, IsProduct}
use Rattle.glob.specs.declared.matcher.Budget.{Budget}

-- ---- one test
pub spend_none : (row : ℕ) (b : Budget) → b.rows ≡ 0 → worth row b ≡ 0
unfolding worth
spend_none row b e = rw e (omega arith)

pub spend_last : (row : ℕ) (b : Budget) → b.rows ≡ 1 → row ≤ b.used → worth row b ≡ 0
unfolding worth
spend_last row b e h = rw e (omega arith)

-- with a row more than m there is a test that is left
rows_on : (n m row u : ℕ) → n ≡ m + 1 → u < row → n * row - u ≡ n * row - (u + 1) + 1
rows_on n m row u k h = rw k (omega arith)

pub spend_on : (row : ℕ) (b : Budget) → (b.rows ≡ 0 → ⊥) → b.used < row → OneLess row b record { rows = b.rows; used = b.used + 1 }
unfolding worth
spend_on row b n h = record { usable = omega arith; spent = rows_on b.rows (b.rows - 1) row b.used (omega arith) h }

rows_next : (n m row u : ℕ) → n ≡ m + 1 + 1 → 0 < row → u ≡ row → n * row - u ≡ (m + 1) * row - 1 + 1
rows_next n m row u k g e = rw (k, e) (omega arith)

pub spend_row : (row : ℕ) (b : Budget) → 0 < row → Usable row b → (b.rows ≡ 0 → ⊥) → row ≤ b.used → (b.rows ≡ 1 → ⊥) → OneLess row b record { rows = b.rows - 1; used = 1 }
unfolding worth
spend_row row b g u n h f =
    let k : b.rows - 1 ≡ b.rows - 2 + 1 = omega arith in
    record { usable = g; spent = rw k (rows_next b.rows (b.rows - 2) row b.used (omega arith) g (omega arith)) }

-- ---- the tests of all bytes
-- so many rows, of which nothing is used, are the product of the two lengths
pub budget_is : (row n : ℕ) → IsProduct row n record { rows = n; used = 0 }
unfolding worth
budget_is row n = record { usable = omega arith; exact = omega arith }

-- a row less for one byte less
pub covers_less : (row n m all d : ℕ) (b l : Budget) → n ≡ m + 1 → Usable row l → Covers row n all b → worth row b ≡ worth row l + d → d ≤ row → Covers row m all l
covers_less row n m all d b l k u c h g =
    let e : (m + 1) * row ≤ worth row b = rw k at c.enough in
    record { usable = u; enough = omega (arith, e); most = omega (arith, c.most) }

-- a test less for each of so many bytes less
pub covers_on : (row n m all d : ℕ) (b l : Budget) → n ≡ m + d → 0 < row → Usable row l → Covers row n all b → worth row b ≡ worth row l + d → Covers row m all l
covers_on row n m all d b l k g u c h =
    let e : (m + d) * row ≤ worth row b = rw k at c.enough in
    let f : d ≤ d * row = le-mul_of_pos_right d g in
    record { usable = u; enough = omega (arith, e, f); most = omega (arith, c.most) }
