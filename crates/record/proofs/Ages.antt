-- The sign and the size of an age, as the code computes them on bits and as the definitions have them on ℤ.
use Rattle.std.specs.Prelude.{None, Option, Some}
use mathlib.Core.Path.{◌≡◌, refl}
use mathlib.Core.Bool.{Bool, true, false}
use Prim.Native.Nat.{ℕ, zero, suc, min, ◌≤◌, ◌<◌}
use native.Mathlib.Omega.{arith}
use borrow.Author.Tests.{le-ltb}
use lib.IntN.{ℤ, pos, negsuc, nat_abs}
use lib.Signed.{lt_z, non_neg}
use Rattle.question.specs.declared.Age.{Age}
use Rattle.record.specs.Layout.{is_below, size_of, age_from}
use Rattle.record.specs.Stored.{largest_size, stored_age}
use mir.Syntax.{w32}
use mir.Val.{SFits, to_z, of_z}
use mir.ValLaws.{to_z-of_z, to_z_pos}

pub no_minus : (n : ℕ) → lt_z (pos n) (pos 0) ≡ false
no_minus n = le-ltb n 0 (omega arith)

pub plain_sign : (z : ℤ) → lt_z z (pos 0) ≡ false → non_neg z ≡ true
plain_sign (pos n) e = refl
plain_sign (negsuc n) e = cc

-- ---- an age as its sign and its size
pub age_back : (age : (Option Age)) → age_from (is_below age) (size_of age) ≡ age
unfolding age_from is_below size_of
age_back None = refl
age_back (Some a) = go a.0
  where
    go : (z : ℤ) → age_from (lt_z z (pos 0)) (nat_abs z) ≡ Some (record { 0 = z })
    go (pos n) = rw (no_minus n)
    go (negsuc n) = refl

pub sign_back : (b : Bool) (n : ℕ) → is_below (age_from b n) ≡ b
unfolding age_from is_below
sign_back false n = no_minus n
sign_back true zero = refl
sign_back true (suc n) = refl

pub size_back : (b : Bool) (n : ℕ) → size_of (age_from b n) ≡ n
unfolding age_from size_of
size_back false n = refl
size_back true zero = refl
size_back true (suc n) = refl

-- ---- what is stored of an age: its sign, and its size up to the largest
module _ (age : (Option Age)) where
  pub stored_sign : is_below (stored_age age) ≡ is_below age
  unfolding stored_age
  stored_sign = sign_back (is_below age) (min (size_of age) largest_size)

  pub stored_size : size_of (stored_age age) ≡ min (size_of age) largest_size
  unfolding stored_age
  stored_size = size_back (is_below age) (min (size_of age) largest_size)

  pub stored_most : size_of (stored_age age) ≤ largest_size
  stored_most = rw stored_size (omega arith)

  -- "Reading what was written gives the stored fields back, the age up to that cap": an age that 24 bits hold is stored as it is
  pub stored_small : size_of age ≤ largest_size → stored_age age ≡ age
  unfolding stored_age
  stored_small h = let e : min (size_of age) largest_size ≡ size_of age = omega arith in rw e (age_back age)

  pub never_size : age ≡ None → 0 ≡ size_of (stored_age age)
  unfolding size_of
  never_size e = rw (stored_size, e) (omega arith)

  pub never_sign : age ≡ None → true ≡ is_below (stored_age age)
  unfolding is_below
  never_sign e = rw (stored_sign, e)

module _ (age : Option Age) (a : Age) (e : age ≡ Some a) (f : SFits w32 a.0) where
  back : to_z w32 (of_z w32 a.0) ≡ a.0
  back = to_z-of_z w32 a.0 f

  pub minutes_size : (r : ℕ) → r ≡ nat_abs (to_z w32 (of_z w32 a.0)) → min r largest_size ≡ size_of (stored_age age)
  unfolding size_of
  minutes_size r q = rw (stored_size age, e, q, back)

  pub minutes_sign : lt_z (to_z w32 (of_z w32 a.0)) (pos 0) ≡ is_below (stored_age age)
  unfolding is_below
  minutes_sign = rw (stored_sign age, e, back)

-- the age of a sign and a size
module _ (b : Bool) (n : ℕ) (h : n < 16777216) where
  pub age_past : b ≡ false → Some (record { 0 = to_z w32 n }) ≡ age_from b n
  unfolding age_from
  age_past e = rw (e, to_z_pos w32 n (omega arith))
