-- The laws of numbers written in decimal digits. Assumes nothing.
use Rattle.std.specs.Prelude.{None, Some}
use mathlib.Core.Path.{◌≡◌, refl, ap, ◌∙◌}
use mathlib.Core.Bool.{Bool, true, false, cond}
use mathlib.Core.List.{List, [], ◌∷◌, ◌++◌}
use Prim.Native.Nat.{ℕ, zero, suc, ◌+◌, ◌-◌, ◌*◌, ◌/◌, ◌%◌, ◌≤◌, ◌<◌, ◌^◌}
use native.Mathlib.Nat.{pow-suc}
use native.Mathlib.Omega.{arith}
use borrow.Author.Tests.{lt-ltb, le-ltb, ltb-true, ltb-false, le-leb}
use lib.Dec.{ltb}
use lib.ListN.{length, length-append}
use Rattle.text.specs.Number.{digits}
use Rattle.text.specs.Class.{digit}
use Rattle.text.proofs.Laws.{clash}
use Rattle.output.specs.Decimal.{digit_byte, last_digit, written, decimal}

pub tens_less : (n : ℕ) → 10 ≤ n → n / 10 < n
tens_less n h = omega arith

-- more digits than are needed change nothing
written_same : (f g n : ℕ) → n < f → n < g → written f n ≡ written g n
unfolding written
written_same zero g n h k = absurd (omega arith)
written_same (suc f) zero n h k = absurd (omega arith)
written_same (suc f) (suc g) n h k = go (ltb n 10) refl (λ m i j. written_same f g m i j)
  where
    go : (t : Bool) → ltb n 10 ≡ t → ((m : ℕ) → m < f → m < g → written f m ≡ written g m) → last_digit t (λ k. written f k) n ≡ last_digit t (λ k. written g k) n
    go true e p = refl
    go false e p = let l = tens_less n (ltb-false n 10 e) in ap (λ x. x ++ digit_byte (n % 10) ∷ []) (p (n / 10) (omega arith) (omega arith))

pub decimal_one : (n : ℕ) → n < 10 → decimal n ≡ digit_byte n ∷ []
unfolding decimal written
decimal_one n h = rw (lt-ltb n 10 h)

-- the digits of the tens, then that of the ones
pub decimal_more : (n : ℕ) → 10 ≤ n → decimal n ≡ decimal (n / 10) ++ digit_byte (n % 10) ∷ []
unfolding decimal written
decimal_more n h =
    let l = tens_less n h in
    let e : written n (n / 10) ≡ written (suc (n / 10)) (n / 10) = written_same n (suc (n / 10)) (n / 10) l (omega arith) in
    rw (le-ltb n 10 h, e)

-- a digit behind digits that give w
digits_behind : (v w d : ℕ) (s : List ℕ) → d < 10 → digits v s ≡ Some w → digits v (s ++ digit_byte d ∷ []) ≡ Some (w * 10 + d)
unfolding digits digit
digits_behind v w d [] h e =
    let q : v ≡ w = cc in
    let z : 48 + d - 48 ≡ d = omega arith in
    rw (le-leb 48 (48 + d) (omega arith), le-leb (48 + d) 57 (omega arith), z, q)
digits_behind v w d (b ∷ s) h e = go (digit b) (λ x p. digits_behind x w d s h p) e
  where
    go : (t : Bool) → ((x : ℕ) → digits x s ≡ Some w → digits x (s ++ digit_byte d ∷ []) ≡ Some (w * 10 + d)) → cond t (digits (v * 10 + (b - 48)) s) None ≡ Some w → cond t (digits (v * 10 + (b - 48)) (s ++ digit_byte d ∷ [])) None ≡ Some (w * 10 + d)
    go true p e = p (v * 10 + (b - 48)) e
    go false p e = clash cc

digits_start : digits 0 [] ≡ Some 0
unfolding digits
digits_start = refl

read_back : (f n : ℕ) → n < f → digits 0 (decimal n) ≡ Some n
read_back zero n h = absurd (omega arith)
read_back (suc f) n h = go (ltb n 10) refl (λ m i. read_back f m i)
  where
    go : (t : Bool) → ltb n 10 ≡ t → ((m : ℕ) → m < f → digits 0 (decimal m) ≡ Some m) → digits 0 (decimal n) ≡ Some n
    go true e p =
        let l = ltb-true n 10 e in
        let z : 0 * 10 + n ≡ n = omega arith in
        rw (decimal_one n l) (digits_behind 0 0 n [] l digits_start ∙ rw z)
    go false e p =
        let l = ltb-false n 10 e in
        let z : n / 10 * 10 + n % 10 ≡ n = omega arith in
        rw (decimal_more n l) (digits_behind 0 (n / 10) (n % 10) (decimal (n / 10)) (omega arith) (p (n / 10) (omega arith)) ∙ rw z)

-- the digits of n, read as a number, are n
pub decimal_read : (n : ℕ) → digits 0 (decimal n) ≡ Some n
decimal_read n = read_back (suc n) n (omega arith)

-- ---- how many digits a number has
more_digits : (m k : ℕ) → ((n : ℕ) → n < m → length (decimal n) ≤ k) → (n : ℕ) → n < m * 10 → length (decimal n) ≤ suc k
more_digits m k p n h = go (ltb n 10) refl
  where
    go : (t : Bool) → ltb n 10 ≡ t → length (decimal n) ≤ suc k
    go true e = rw (decimal_one n (ltb-true n 10 e)) (omega arith)
    go false e =
        let l = ltb-false n 10 e in
        let q = p (n / 10) (omega arith) in
        rw (decimal_more n l, length-append (decimal (n / 10)) (digit_byte (n % 10) ∷ [])) (omega arith)

one_digit : (n : ℕ) → n < 10 → length (decimal n) ≤ 1
one_digit n h = rw (decimal_one n h) (omega arith)

-- a number below the power of ten has at most so many digits
pub decimal_digits : (k n : ℕ) → n < 10 ^ suc k → length (decimal n) ≤ suc k
decimal_digits zero n h = one_digit n h
decimal_digits (suc k) n h = more_digits (10 ^ suc k) (suc k) (decimal_digits k) n (rw (← pow-suc 10 (suc k)) h)

-- a number below 100,000 has at most five digits
pub decimal_short : (n : ℕ) → n < 100000 → length (decimal n) ≤ 5
decimal_short = decimal_digits 4

-- ---- the first digit is no zero
abbrev Leads : ℕ → Type 0
Leads n = (x : ℕ) × (xs : List ℕ) × (decimal n ≡ x ∷ xs) × (x ≡ 48 → ⊥)

leads : (f n : ℕ) → n < f → 0 < n → Leads n
leads zero n h k = absurd (omega arith)
leads (suc f) n h k = go (ltb n 10) refl (λ m i j. leads f m i j)
  where
    go : (t : Bool) → ltb n 10 ≡ t → ((m : ℕ) → m < f → 0 < m → Leads m) → Leads n
    go true e p = (digit_byte n, [], decimal_one n (ltb-true n 10 e), λ q. omega arith)
    go false e p =
        let l = ltb-false n 10 e in
        let w = p (n / 10) (omega arith) (omega arith) in
        (w.0, w.1 ++ digit_byte (n % 10) ∷ [], decimal_more n l ∙ rw w.2, w.3)

-- the digits of a number above zero do not begin with a zero
pub decimal_leads : (n : ℕ) → 0 < n → (x : ℕ) × (xs : List ℕ) × (decimal n ≡ x ∷ xs) × (x ≡ 48 → ⊥)
decimal_leads n h = leads (suc n) n (omega arith) h
