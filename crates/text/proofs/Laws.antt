-- General laws of lists, of choices and of computed tables.
use Rattle.std.specs.Option.{option_or}
use Rattle.std.specs.Prelude.{None, Option, Some}
use mathlib.Core.Path.{◌≡◌, refl, sym}
use mathlib.Core.Bool.{Bool, true, false, not, cond, ◌&&◌, ◌||◌}
use mathlib.Core.List.{List, [], ◌∷◌, map}
use mathlib.Core.Logic.{◌⊎◌, inl, inr}
use Prim.Native.Nat.{ℕ, zero, suc, ◌+◌, ◌-◌, ◌≤◌, ◌<◌, min}
use native.Mathlib.Omega.{arith}
use native.Mathlib.Decide.{dec_le}
use native.Mathlib.Nat.{le_of_suc-le-suc, not-suc-le-zero}
use native.Mathlib.Numerals.{add-one}
use lib.ListN.{length, get_or, take, drop, length-take, length-drop}
use lib.Seq.{drop-cons, take_all, take-nil}

-- the next element, by the code's `i + 1`
pub next_of : {A : Type 0} (z : A) (s : List A) (i : ℕ) → i < length s → drop i s ≡ get_or s i z ∷ drop (i + 1) s
next_of z s i h = rw (add-one, drop-cons s i z)

-- the same of bytes
pub next : (s : List ℕ) (i : ℕ) → i < length s → drop i s ≡ get_or s i 0 ∷ drop (i + 1) s
next = next_of 0

-- what holds of both choices holds of the chosen one
pub pick_of : {X : Type 0} (P : X → Type 0) (t : Bool) {x y : X} → P x → P y → P (cond t x y)
pick_of P true p q = p
pick_of P false p q = q

pub pick_both : {X : Type 0} (t : Bool) (x : X) → cond t x x ≡ x
pick_both true x = refl
pick_both false x = refl

-- a choice of something or none that is something
pub chosen : {A : Type 0} (t : Bool) (o : Option A) (w : A) → cond t o None ≡ Some w → (t ≡ true) × (o ≡ Some w)
chosen true o w e = (refl, e)
chosen false o w e = (cc, cc)

pub both_true : (a b : Bool) → a && b ≡ true → (a ≡ true) × (b ≡ true)
both_true true b e = (refl, e)
both_true false b e = (e, cc)

pub both_of : {a b : Bool} → a ≡ true → b ≡ true → a && b ≡ true
both_of e f = rw (e, f)

pub both_no : (t : Bool) → t && false ≡ false
both_no true = refl
both_no false = refl

pub both_yes : (t : Bool) → t && true ≡ t
both_yes true = refl
both_yes false = refl

pub both_assoc : (a b c : Bool) → a && b && c ≡ a && (b && c)
both_assoc true b c = refl
both_assoc false b c = refl

pub either_no : (t : Bool) → t || false ≡ t
either_no true = refl
either_no false = refl

pub either_yes : (t : Bool) → t || true ≡ true
either_yes true = refl
either_yes false = refl

pub either_of : (a b : Bool) → b ≡ true → a || b ≡ true
either_of true b e = refl
either_of false b e = e

pub either_false : (a b : Bool) → a || b ≡ false → (a ≡ false) × (b ≡ false)
either_false true b e = (cc, cc)
either_false false b e = (refl, e)

pub either_true : (a b : Bool) → a || b ≡ true → (a ≡ true) ⊎ (b ≡ true)
either_true true b e = inl refl
either_true false b e = inr e

pub either_assoc : (a b c : Bool) → a || b || c ≡ a || (b || c)
either_assoc true b c = refl
either_assoc false b c = refl

pub not_both : (a b : Bool) → not (a && b) ≡ not a || not b
not_both true b = refl
not_both false b = refl

-- two tests that pass at the same time are one
pub same_test : (a b : Bool) → (a ≡ true → b ≡ true) → (b ≡ true → a ≡ true) → a ≡ b
same_test true b f g = sym (f refl)
same_test false true f g = g refl
same_test false false f g = refl

pub false_of : (t : Bool) → (t ≡ true → ⊥) → t ≡ false
false_of true h = absurd (h refl)
false_of false h = refl

-- what holds of 0, 1, .. n - 1 one by one holds below n
abbrev pub All : (ℕ → Type 0) → ℕ → Type 0
All P zero = Unit {0}
All P (suc n) = P 0 × All (λ k. P (suc k)) n

pub below : (P : ℕ → Type 0) (n : ℕ) → All P n → (d : ℕ) → d < n → P d
below P zero all d h = absurd (not-suc-le-zero h)
below P (suc n) all zero h = all.0
below P (suc n) all (suc d) h = below (λ k. P (suc k)) n all.1 d (le_of_suc-le-suc h)

-- n numbers from i on
abbrev pub from : ℕ → ℕ → List ℕ
from zero i = []
from (suc n) i = i ∷ from n (i + 1)

-- what a computed test of all numbers below n says of one
pub every {ℓ} : {B : Type ℓ} (f g : ℕ → B) (n i k : ℕ) → map f (from n i) ≡ map g (from n i) → k < n → f (i + k) ≡ g (i + k)
every f g zero i k e h = absurd (omega arith)
every f g (suc n) i zero e h = let z : i + 0 ≡ i = omega arith in let y : f i ≡ g i = cc in rw z y
every f g (suc n) i (suc k) e h =
    let z : i + 1 + k ≡ i + suc k = omega arith in let y : map f (from n (i + 1)) ≡ map g (from n (i + 1)) = cc in
    rw (← z) (every f g n (i + 1) k y (omega arith))

pub every_byte {ℓ} : {B : Type ℓ} (f g : ℕ → B) → map f (from 256 0) ≡ map g (from 256 0) → (b : ℕ) → b < 256 → f b ≡ g b
every_byte f g e b h = let z : 0 + b ≡ b = omega arith in rw z at (every f g 256 0 b e h)

-- `&s[n..]` is the rest of s
pub part_rest : {A : Type 0} (n : ℕ) (s : List A) → take (length s - n) (drop n s) ≡ drop n s
part_rest n s = let h : length (drop n s) ≤ length s - n = omega (arith, length-drop n s) in take_all _ _ h

-- `&s[..n]` is the beginning of s
pub part_start : {A : Type 0} (n : ℕ) (s : List A) → take (n - 0) (drop 0 s) ≡ take n s
part_start n s = let z : n - 0 ≡ n = omega arith in rw z

pub drop_take : {A : Type 0} (b n : ℕ) (s : List A) → drop b (take n s) ≡ take (n - b) (drop b s)
drop_take zero n s = let z : n - 0 ≡ n = omega arith in rw z
drop_take (suc b) zero s = let z : 0 - suc b ≡ 0 = omega arith in rw z
drop_take (suc b) (suc n) [] = sym (take-nil (suc n - suc b))
drop_take (suc b) (suc n) (x ∷ s) = let z : suc n - suc b ≡ n - b = omega arith in rw z (drop_take b n s)

-- `&s[a..e]`: its length, its elements, its first element and the rest, and what stands before and behind it
module _ {A : Type 0} (s : List A) (a e : ℕ) where
  pub part_length : e ≤ length s → length (take (e - a) (drop a s)) ≡ e - a
  part_length h = simp (length-take, length-drop) (omega arith)

  pub part_none : e ≤ a → take (e - a) (drop a s) ≡ []
  part_none h = let z : e - a ≡ 0 = omega arith in rw z

-- an impossible equation proves anything: `clash cc` where constructors differ
pub clash : {A : Type 0} → ◌≡◌ {A = ℕ} 0 1 → A
clash z = absurd (omega arith)

-- so does a test that is both false and true
pub untrue : {A : Type 0} → false ≡ true → A
untrue e = clash cc

-- ---- the first of some values that is there
module _ {A : Type 0} where
  pub else_assoc : (a b c : Option A) → option_or (option_or a b) c ≡ option_or a (option_or b c)
  else_assoc None b c = refl
  else_assoc (Some x) b c = refl

  pub else_none : (a : Option A) → option_or a None ≡ a
  else_none None = refl
  else_none (Some x) = refl

-- a length that is clamped takes the same
pub take_min : {A : Type 0} (n m : ℕ) (l : List A) → length l ≤ m → take (min n m) l ≡ take n l
take_min n m l h = elim (dec_le n m) [ yes g ↦ small (omega arith) | no g ↦ large (omega arith) (omega arith) ]
  where
    small : min n m ≡ n → take (min n m) l ≡ take n l
    small e = rw e

    large : min n m ≡ m → length l ≤ n → take (min n m) l ≡ take n l
    large e g = rw (e, take_all m l h, take_all n l g)

-- a clamped length of a list takes what the limit takes
pub take_most : {A : Type 0} (m : ℕ) (l : List A) → take (min (length l) m) l ≡ take m l
take_most m l = elim (dec_le (length l) m) [ yes g ↦ small (omega arith) (omega arith) | no g ↦ large (omega arith) ]
  where
    small : min (length l) m ≡ length l → length l ≤ m → take (min (length l) m) l ≡ take m l
    small e h = rw (e, take_all (length l) l (omega arith), take_all m l h)

    large : min (length l) m ≡ m → take (min (length l) m) l ≡ take m l
    large e = rw e
