use Rattle.figures.proofs.Adding.{fields_more}
use Rattle.figures.proofs.Figures.add_fields.Goals as goal

pub returns : goal.returns
returns c = fields_more c.args.self.now c.args.fields
    c.one_more_at.ensures c.one_more_at-2.ensures c.one_more_at-3.ensures
    c.below_zero.ensures c.from_zero.ensures c.is_from_zero.ensures
    c.add_to-self.ensures c.add_to-self-2.ensures c.one_more_if-self.ensures c.one_more-self.ensures
