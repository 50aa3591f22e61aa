-- Laws of counts. Assumes nothing.
use Rattle.std.proofs.Common.{◌≡◌, ℕ, ◌+◌, ◌≤◌, arith}
use Rattle.streams.specs.Contract.{counted_on}

-- no byte more leaves a count as it is
pub counted_none : (count : ℕ) → count ≤ 18446744073709551615 → count ≡ counted_on count 0
unfolding counted_on
counted_none count h = omega arith

-- bytes counted in two steps are counted
pub counted_twice : (count m n : ℕ) → counted_on (counted_on count m) n ≡ counted_on count (m + n)
unfolding counted_on
counted_twice count m n = omega arith
