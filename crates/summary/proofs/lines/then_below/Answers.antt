use Rattle.output.proofs.BehindLaws.{after_as}
use Rattle.summary.proofs.LineLaws.{below_none, below_some}
use Rattle.summary.proofs.lines.then_below.Goals as goal

pub returns-then-below-eq0 : goal.returns-then-below-eq0
returns-then-below-eq0 c = after_as c.then_row.ensures (below_none _ c.if-below-eq0.true)

pub returns : goal.returns
returns c = after_as c.then_row-2.ensures (below_some _ c.if-below-eq0.false)
