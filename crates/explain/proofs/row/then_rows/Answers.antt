use Rattle.output.proofs.BehindLaws.{after_then, after_as}
use Rattle.explain.proofs.ExplainLaws.{rows_are}
use Rattle.explain.proofs.row.then_rows.Goals as goal

pub returns : goal.returns
returns c = after_as (after_then (after_then (after_then c.then_row-line.ensures c.then_all-below.ensures) c.then_row-front.ensures) c.then_all.ensures) (rows_are _ _ _ c.line_start-start.ensures.0 _ c.byte_from-end.ensures.0)
