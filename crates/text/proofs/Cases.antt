-- The laws of letters in either case. Assumes nothing.
use Rattle.std.specs.List.{list_all}
use mathlib.Core.Path.{◌≡◌, refl, sym, ap, ◌∙◌}
use mathlib.Core.Bool.{Bool, true, false, cond, ◌&&◌}
use mathlib.Core.List.{List, [], ◌∷◌}
use Prim.Native.Nat.{ℕ, ◌+◌, ◌-◌, ◌≤◌, ◌<◌}
use native.Mathlib.Omega.{arith}
use borrow.Author.Tests.{leb-true, le-leb, lt-leb}
use lib.Dec.{leb}
use lib.ListN.{length}
use Rattle.text.specs.Class.{name_byte, word_byte, letter}
use Rattle.text.specs.Case.{lower_of, upper_of, Alike, ends, goes}
use Rattle.text.proofs.Laws.{both_true}

-- a capital letter as a small one: what is left to show where it is one, and where it is not
by-capital : (P : ℕ → Type 0) (b : ℕ) → (65 ≤ b → b ≤ 90 → P (b + 32)) → P b → P (lower_of b)
unfolding lower_of
by-capital P b f p = go (leb 65 b && leb b 90) refl
  where
    go : (t : Bool) → leb 65 b && leb b 90 ≡ t → P (cond t (b + 32) b)
    go true e = let u = both_true (leb 65 b) (leb b 90) e in f (leb-true 65 b u.0) (leb-true b 90 u.1)
    go false e = p

-- the capital of a letter is that of the small one
pub upper_lower : (b : ℕ) → upper_of b ≡ upper_of (lower_of b)
unfolding upper_of
upper_lower b = by-capital (λ n. upper_of b ≡ upper_of n) b small refl
  where
    small : 65 ≤ b → b ≤ 90 → cond (leb 97 b && leb b 122) (b - 32) b ≡ cond (leb 97 (b + 32) && leb (b + 32) 122) (b + 32 - 32) (b + 32)
    small l h =
        let x : b < 97 = omega arith in
        let y : 97 ≤ b + 32 = omega arith in
        let z : b + 32 ≤ 122 = omega arith in
        let w : b + 32 - 32 ≡ b = omega arith in
        rw (lt-leb 97 b x, le-leb 97 (b + 32) y, le-leb (b + 32) 122 z, w)

-- a letter is one of a name's bytes in either case
lower_name : (b : ℕ) → name_byte b ≡ name_byte (lower_of b)
unfolding name_byte word_byte letter
lower_name b = by-capital (λ n. name_byte b ≡ name_byte n) b small refl
  where
    small : 65 ≤ b → b ≤ 90 → name_byte b ≡ name_byte (b + 32)
    small l h =
        let m : 65 ≤ b + 32 = omega arith in
        let x : 90 < b + 32 = omega arith in
        let y : 97 ≤ b + 32 = omega arith in
        let z : b + 32 ≤ 122 = omega arith in
        rw (le-leb 65 b l, le-leb b 90 h, le-leb 65 (b + 32) m, lt-leb (b + 32) 90 x, le-leb 97 (b + 32) y, le-leb (b + 32) 122 z)

-- names that differ in case only are equally long, and both of a name's bytes or neither
pub alike_length : (s t : List ℕ) → Alike s t → length s ≡ length t
alike_length [] [] ends = refl
alike_length [] (c ∷ t) w = elim w [ ]
alike_length (b ∷ s) [] w = elim w [ ]
alike_length (b ∷ s) (c ∷ t) (goes e w) = rw (alike_length s t w)

pub alike_names : (s t : List ℕ) → Alike s t → list_all name_byte s ≡ list_all name_byte t
alike_names [] [] ends = refl
alike_names [] (c ∷ t) w = elim w [ ]
alike_names (b ∷ s) [] w = elim w [ ]
alike_names (b ∷ s) (c ∷ t) (goes e w) = rw (lower_name b ∙ ap name_byte e ∙ sym (lower_name c), alike_names s t w)
