-- The bar beside a count. Assumes nothing.
use mathlib.Core.Path.{◌≡◌, refl, sym, ap, ◌∙◌}
use mathlib.Core.List.{List, [], ◌∷◌, ◌++◌}
use Prim.Native.Nat.{ℕ, zero, suc, min, max, ◌+◌, ◌*◌, ◌-◌, ◌/◌, ◌%◌, ◌≤◌, ◌<◌, ◌^◌}
use native.Mathlib.Decide.{dec_le}
use native.Mathlib.Nat.{pow-suc, mod-lt, div-add-mod', div-eq_of_lt, mul-add-div_right, add-div_left}
use native.Mathlib.Omega.{arith}
use borrow.Author.Tests.{eq-eqb, ne_eqb}
use lib.ListN.{length, length-append, get_or, drop, replicate, drop_of_length-le}
use Rattle.text.specs.Bytes.{byte}
use Rattle.text.proofs.Laws.{next}
use Rattle.output.specs.Decimal.{digit_byte, decimal}
use Rattle.output.proofs.DecimalLaws.{decimal_one, decimal_more, decimal_digits}
use Rattle.summary.specs.Bar.{largest_of, bar_length, gap_text, bar_text}

-- ---- the largest of some counts
pub larger_next : (l : List ℕ) (i most r : ℕ) → i < length l → r ≡ max (get_or l i 0) most → max r (largest_of (drop (i + 1) l)) ≡ max most (largest_of (drop i l))
unfolding largest_of
larger_next l i most r h e = rw (next l i h, e) (omega arith)

pub larger_end : (l : List ℕ) (i most : ℕ) → length l ≤ i → max most (largest_of (drop i l)) ≡ most
unfolding largest_of
larger_end l i most h = let d = drop_of_length-le l {i = i} h in rw d (omega arith)

pub larger_start : (l : List ℕ) → max 0 (largest_of (drop 0 l)) ≡ largest_of l
larger_start l = omega arith

-- ---- the length of a bar
-- the quotient, with one more where a remainder is left, is that of the dividend with the divisor less one
ceil_parts : (y : ℕ) → 0 < y → (q r : ℕ) → r < y → (q * y + r + (y - 1)) / y ≡ q + min 1 r
ceil_parts y p q zero h =
    let e : q * y + 0 + (y - 1) ≡ q * y + (y - 1) = omega arith in
    let d : (y - 1) / y ≡ 0 = div-eq_of_lt (omega arith) in
    rw (e, mul-add-div_right p q (y - 1), d) (omega arith)
ceil_parts y p q (suc r) h =
    let e : q * y + suc r + (y - 1) ≡ q * y + (y + r) = omega arith in
    let a : (y + r) / y ≡ r / y + 1 = add-div_left r p in
    let d : r / y ≡ 0 = div-eq_of_lt (omega arith) in
    rw (e, mul-add-div_right p q (y + r), a, d) (omega arith)

ceil_up : (x y : ℕ) → 0 < y → x / y + min 1 (x % y) ≡ (x + (y - 1)) / y
ceil_up x y p = sym (ceil_parts y p (x / y) (x % y) (mod-lt x {m = y} p)) ∙ ap (λ (z : ℕ). (z + (y - 1)) / y) (div-add-mod' x y)

module _ (n most : ℕ) where
  pub length_none : most ≡ 0 → 0 ≡ bar_length n most
  unfolding bar_length
  length_none e = rw (eq-eqb most 0 e)

  pub length_of : {r a b : ℕ} → (most ≡ 0 → ⊥) → a ≡ n → b ≡ most → r ≡ a * 48 / b + min 1 (a * 48 % b) → r ≡ bar_length n most
  unfolding bar_length
  length_of h f g e = let p : 0 < most = omega arith in rw (ne_eqb most 0 h, e, f, g) (ceil_up (n * 48) most p)

-- ---- marks
pub marks_next : (n i : ℕ) → i < n → replicate {A = ℕ} (n - i) 35 ≡ (35 ∷ []) ++ replicate (n - (i + 1)) 35
marks_next n i h = let e : n - i ≡ suc (n - (i + 1)) = omega arith in rw e

pub marks_end : (n i : ℕ) → n ≤ i → replicate {A = ℕ} (n - i) 35 ≡ []
marks_end n i h = let e : n - i ≡ 0 = omega arith in rw e

pub marks_start : (n : ℕ) → replicate {A = ℕ} (n - 0) 35 ≡ replicate n 35
marks_start n = let e : n - 0 ≡ n = omega arith in rw e

-- ---- the blanks in front
-- a number that is not below the power of ten has more digits
some_digit : (n : ℕ) → 1 ≤ length (decimal n)
some_digit n = elim (dec_le 10 n) [ yes h ↦ rw (decimal_more n h, length-append (decimal (n / 10)) (digit_byte (n % 10) ∷ [])) (omega arith) | no h ↦ rw (decimal_one n (omega arith)) (omega arith) ]

some_power : (k : ℕ) → 1 ≤ 10 ^ k
some_power zero = omega arith
some_power (suc k) = rw (pow-suc 10 k) (omega (arith, some_power k))

decimal_least : (k n : ℕ) → 10 ^ k ≤ n → suc k ≤ length (decimal n)
decimal_least zero n h = some_digit n
decimal_least (suc k) n h = more (10 ^ k) (some_power k) (decimal_least k) (rw (← pow-suc 10 k) h)
  where
    more : (m : ℕ) → 1 ≤ m → ((i : ℕ) → m ≤ i → suc k ≤ length (decimal i)) → m * 10 ≤ n → suc (suc k) ≤ length (decimal n)
    more m o p g = let q = p (n / 10) (omega arith) in rw (decimal_more n (omega arith), length-append (decimal (n / 10)) (digit_byte (n % 10) ∷ [])) (omega arith)

gap_by : (n k : ℕ) → length (decimal n) ≡ k → gap_text n ≡ replicate (max 1 (8 - k)) (byte " ")
unfolding gap_text
gap_by n k e = rw e

pub gap_first : (n : ℕ) → n < 10 → gap_text n ≡ replicate 7 (byte " ")
gap_first n h = gap_by n 1 (rw (decimal_one n h))

pub gap_between : (k n : ℕ) → 10 ^ k ≤ n → n < 10 ^ suc k → gap_text n ≡ replicate (max 1 (8 - suc k)) (byte " ")
gap_between k n g h = gap_by n (suc k) (omega (arith, decimal_least k n g, decimal_digits k n h))

pub gap_last : (n : ℕ) → 1000000 ≤ n → gap_text n ≡ replicate 1 (byte " ")
gap_last n g = let l = decimal_least 6 n g in let e : max 1 (8 - length (decimal n)) ≡ 1 = omega arith in gap_by n (length (decimal n)) refl ∙ ap (λ k. replicate k (byte " ")) e

-- ---- a bar
module _ (n most : ℕ) {r : ℕ} (e : r ≡ bar_length n most) where
  pub no_bar : r ≡ 0 → bar_text n most ≡ []
  unfolding bar_text
  no_bar z = rw (← e, eq-eqb r 0 z)

  pub some_bar : (r ≡ 0 → ⊥) → bar_text n most ≡ gap_text n ++ replicate r 35
  unfolding bar_text
  some_bar z = rw (← e, ne_eqb r 0 z)
