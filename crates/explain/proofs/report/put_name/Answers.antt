use Rattle.explain.proofs.ExplainLaws.{name_put}
use Rattle.explain.proofs.report.put_name.Goals as goal

pub returns : goal.returns
returns c = name_put _ c.then_row.ensures
