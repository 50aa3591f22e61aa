use Rattle.figures.proofs.Adding.{from_other, from_age}
use Rattle.figures.proofs.amount.is_from_zero.Goals as goal

pub returns-then-number-gt1 : goal.returns-then-number-gt1
returns-then-number-gt1 c = from_other _ c.args.age c.if-number-gt1.true

pub returns : goal.returns
returns c = from_age _ c.args.age _ c.if-number-gt1.false c.is_below.ensures
