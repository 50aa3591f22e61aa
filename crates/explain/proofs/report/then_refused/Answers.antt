use borrow.Author.Rules.{rules}
use Rattle.output.proofs.BehindLaws.{after_then, after_as}
use Rattle.explain.proofs.ExplainLaws.{refused_is}
use Rattle.explain.proofs.report.then_refused.Goals as goal

pub returns : goal.returns
returns c = after_as (after_then (after_then c.then_all.ensures c.then_decimal-numbered.ensures) c.then_all-2.ensures) (refused_is _ (search rules))
