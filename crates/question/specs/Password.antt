-- When a password is needed (01, "Options").
use Rattle.question.specs.declared.Age.{Age}
use Rattle.std.specs.Prelude.{Bool, false, not, ◌&&◌, ℤ, pos, None, Option, Some}
use Rattle.std.specs.Int.Signed.{le_z, lt_z}

-- "timeout is above zero and the age is from 0 to timeout"; a stamp from the future is not fresh
unfoldable pub fresh : ℤ → (Option Age) → Bool
fresh timeout None = false
fresh timeout (Some age) = lt_z (pos 0) timeout && (le_z (pos 0) age.0 && le_z age.0 timeout)

-- "A password is needed when auth is y, unless" the last authentication is fresh
unfoldable pub password_needed : Bool → ℤ → (Option Age) → Bool
unfolding fresh
password_needed auth timeout age = auth && not (fresh timeout age)
