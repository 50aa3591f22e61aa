use Rattle.std.proofs.Common.{◌+◌, ◌-◌, ◌*◌, length}
use Rattle.pattern.proofs.Readings.{Mixes, Sums}
use Rattle.pattern.proofs.braces.+list_pattern.Given as goal

abbrev pub decreases-list : goal.decreases-list
decreases-list l = 2 * (length l.p.now - l.at) + 1

abbrev pub decreases-pattern : goal.decreases-pattern
decreases-pattern l = 2 * (length l.p.now - l.at)

abbrev pub invariant-list-loop-one : goal.invariant-list-loop-one
invariant-list-loop-one l = Sums l.syntax l.inside l.p l.at l.i l.depth l.number

abbrev pub decreases-list-loop-one : goal.decreases-list-loop-one
decreases-list-loop-one l = length l.p - l.i

abbrev pub invariant-pattern-loop-brace : goal.invariant-pattern-loop-brace
invariant-pattern-loop-brace l = Mixes l.syntax l.inside l.p l.at l.i l.depth l.number

abbrev pub decreases-pattern-loop-brace : goal.decreases-pattern-loop-brace
decreases-pattern-loop-brace l = length l.p - l.i
