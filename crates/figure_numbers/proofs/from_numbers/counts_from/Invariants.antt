use mathlib.Core.Path.{◌≡◌}
use mathlib.Core.List.{map}
use Prim.Native.Nat.{◌-◌, ◌≤◌}
use lib.ListN.{length, take, drop}
use lib.Seq.{paste}
use Rattle.figure_numbers.specs.Numbers.{count_in}
use Rattle.figure_numbers.proofs.from_numbers.counts_from.Given as goal

abbrev pub invariant-loop-i : goal.invariant-loop-i
invariant-loop-i l = (l.i ≤ length l.initial.counts) × (length l.counts ≡ length l.initial.counts) × (l.counts ≡ paste l.initial.counts 0 (map count_in (take (length l.initial.counts) (drop l.at l.numbers))) l.i)

abbrev pub decreases-loop-i : goal.decreases-loop-i
decreases-loop-i l = length l.initial.counts - l.i
