use Rattle.summary.proofs.BarLaws.{length_none, length_of}
use Rattle.summary.proofs.bar.bar_length.Goals as goal

pub returns-then-most-eq0 : goal.returns-then-most-eq0
returns-then-most-eq0 c = length_none _ _ c.if-most-eq0.true

pub returns : goal.returns
returns c = length_of _ _ c.if-most-eq0.false c.from.ensures c.from-2.ensures c.div_ceil.ensures
