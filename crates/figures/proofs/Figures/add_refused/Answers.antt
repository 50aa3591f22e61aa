use Rattle.figures.proofs.Adding.{refused_more}
use Rattle.figures.proofs.Figures.add_refused.Goals as goal

pub returns : goal.returns
returns c = refused_more c.args.self.now c.one_more-self.ensures c.one_more-self-2.ensures
