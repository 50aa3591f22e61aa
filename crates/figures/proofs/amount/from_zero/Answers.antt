use mathlib.Core.Path.{sym, ◌∙◌}
use Rattle.figures.proofs.Adding.{from_none, from_size}
use Rattle.figures.proofs.amount.from_zero.Goals as goal

pub returns-then-not-is_from_zero : goal.returns-then-not-is_from_zero
returns-then-not-is_from_zero c = from_none _ _ (sym c.is_from_zero.ensures ∙ c.if-not-is_from_zero.true)

pub returns : goal.returns
returns c = from_size _ _ _ (sym c.is_from_zero.ensures ∙ c.if-not-is_from_zero.false) c.size_of.ensures
