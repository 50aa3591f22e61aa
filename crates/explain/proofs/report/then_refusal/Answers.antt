use Rattle.output.proofs.BehindLaws.{after_then, after_as}
use Rattle.explain.proofs.ExplainLaws.{refusal_is}
use Rattle.explain.proofs.report.then_refusal.Goals as goal

pub returns : goal.returns
returns c = after_as (after_then (after_then c.then_refused-head.ensures c.then_all.ensures) c.then_all-2.ensures) (refusal_is _ _)
