use Rattle.std.proofs.Common.{◌-◌, length}
use Rattle.pattern.proofs.Depths.{Climbs}
use Rattle.pattern.proofs.levels.+levels.Given as goal

abbrev pub decreases-levels : goal.decreases-levels
decreases-levels l = length l.p.now - l.at

abbrev pub invariant-loop-brace : goal.invariant-loop-brace
invariant-loop-brace l = Climbs l.syntax l.p l.at l.sums l.products l.outer l.i l.deepest l.sum l.product

abbrev pub decreases-loop-brace : goal.decreases-loop-brace
decreases-loop-brace l = length l.p - l.i
