use Rattle.line.proofs.WholeLaws.{last_start, last_on}
use Rattle.line.proofs.whole.last_end.Goals as goal

pub loop-line-init : goal.loop-line-init
loop-line-init c = last_start _ _

pub loop-line-preserved : goal.loop-line-preserved
loop-line-preserved c = last_on _ _ c.loop-line.invariant c.in-Some.ensures
