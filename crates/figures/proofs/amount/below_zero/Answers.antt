use mathlib.Core.Path.{sym, ◌∙◌}
use Rattle.figures.proofs.Adding.{below_other, below_past, below_size}
use Rattle.figures.proofs.amount.below_zero.Goals as goal

pub returns-then-number-gt1 : goal.returns-then-number-gt1
returns-then-number-gt1 c = below_other _ _ c.if-number-gt1.true

pub returns-then-not-is_below : goal.returns-then-not-is_below
returns-then-not-is_below c = below_past _ _ c.if-number-gt1.false (sym c.is_below.ensures ∙ c.if-not-is_below.true)

pub returns : goal.returns
returns c = below_size _ _ _ c.if-number-gt1.false (sym c.is_below.ensures ∙ c.if-not-is_below.false) c.size_of.ensures
