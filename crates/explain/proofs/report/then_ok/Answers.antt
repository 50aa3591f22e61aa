use Rattle.output.proofs.BehindLaws.{after_then, after_as}
use Rattle.explain.proofs.ExplainLaws.{ok_is}
use Rattle.explain.proofs.report.then_ok.Goals as goal

pub returns : goal.returns
returns c = after_as (after_then (after_then c.then_all-head.ensures c.then_row.ensures) c.then_all.ensures) (ok_is _)
