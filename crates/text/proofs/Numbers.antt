-- The laws of decimal numbers.
use mathlib.Core.Path.{◌≡◌}
use mathlib.Core.Bool.{true}
use mathlib.Core.List.{List}
use Prim.Native.Nat.{ℕ, ◌+◌, ◌*◌, ◌-◌, ◌^◌, ◌≤◌, ◌<◌}
use native.Mathlib.Nat.{pow-suc}
use native.Mathlib.Numerals.{add-one}
use native.Mathlib.Omega.{arith}
use borrow.Author.Tests.{leb-true}
use lib.Dec.{leb}
use lib.ListN.{length, drop, get_or}
use Rattle.text.proofs.Laws.{next, both_true}
use Rattle.text.specs.Number.{digits}
use Rattle.text.specs.Class.{digit}

pub digit_range : (b : ℕ) → digit b ≡ true → (48 ≤ b) × (b ≤ 57)
unfolding digit
digit_range b e = let t = both_true (leb 48 b) (leb b 57) e in (leb-true 48 b t.0, leb-true b 57 t.1)

-- a turn of a loop over the digits: i digits are below 10 ^ i
pub turn : (v : ℕ) (s : List ℕ) (i : ℕ) → i < length s → v < 10 ^ i → digit (get_or s i 0) ≡ true → (v * 10 + (get_or s i 0 - 48) < 10 ^ (i + 1)) × (digits (v * 10 + (get_or s i 0 - 48)) (drop (i + 1) s) ≡ digits v (drop i s))
unfolding digits
turn v s i h k t =
    let r = digit_range (get_or s i 0) t in
    (rw (add-one i, pow-suc 10 i) (omega (arith, r.0, r.1)), rw (next s i, t))
