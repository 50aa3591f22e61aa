-- A line, a place or an end that an answer from a table or a su file tells stands in the report as it is. Assumes nothing.
use mathlib.Core.Path.{◌≡◌}
use Prim.Native.Nat.{ℕ, ◌≤◌, min}
use native.Mathlib.Omega.{arith}
use lib.IntN.{pos}
use Rattle.line.specs.Line.{table_limit}
use Rattle.supertab_c.specs.Report.{most, counted}

-- each of them is at most 32,768 (laws `answer_within` of `record` and `su_small`)
pub counted_plain : (n : ℕ) → n ≤ table_limit → counted n ≡ pos n
unfolding counted
counted_plain n h = let e : min n most ≡ n = omega arith in rw e
