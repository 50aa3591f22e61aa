use Rattle.output.proofs.BehindLaws.{after_as, after_then}
use Rattle.summary.proofs.LineLaws.{mean_none, mean_of_law}
use Rattle.summary.proofs.lines.then_mean.Goals as goal

pub returns-then-count-eq0 : goal.returns-then-count-eq0
returns-then-count-eq0 c = after_as c.then_all.ensures (mean_none _ _ c.if-count-eq0.true)

pub returns : goal.returns
returns c = after_as (after_then (after_then (after_then (after_then c.then_all-named.ensures c.then_decimal-whole.ensures) c.then_all-point.ensures) c.then_decimal-tenth.ensures) c.then_all-2.ensures) (mean_of_law _ _ c.if-count-eq0.false)
