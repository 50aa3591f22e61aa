use Rattle.figures.proofs.Adding.{raised_by}
use Rattle.figures.proofs.counts.one_more_at.Goals as goal

pub returns : goal.returns
returns c = raised_by _ _ _ c.one_more.ensures
