use Rattle.output.proofs.BehindLaws.{after_then, after_as}
use Rattle.explain.proofs.ExplainLaws.{position_is}
use Rattle.explain.proofs.report.then_position.Goals as goal

pub returns : goal.returns
returns c = after_as (after_then (after_then (after_then c.then_all.ensures c.then_decimal-line.ensures) c.then_all-2.ensures) c.then_decimal.ensures) (position_is _ _ _ c.line_start-start.ensures.0 _ c.line_number-number.ensures)
