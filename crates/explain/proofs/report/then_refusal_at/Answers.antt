use Rattle.output.proofs.BehindLaws.{after_then, after_as}
use Rattle.explain.proofs.ExplainLaws.{refusal_at_is}
use Rattle.explain.proofs.report.then_refusal_at.Goals as goal

pub returns : goal.returns
returns c = after_as (after_then (after_then c.then_position-placed.ensures c.then_refusal-told.ensures) c.then_rows.ensures) (refusal_at_is _ _ _ _ c.min-at.ensures)
