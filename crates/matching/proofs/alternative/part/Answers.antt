use mathlib.Core.Path.{sym, ◌∙◌}
use Rattle.matching.proofs.AlternativeLaws.{simple_good, simple_bad}
use Rattle.matching.proofs.alternative.part.Goals as goal

pub returns-then-good_part : goal.returns-then-good_part
returns-then-good_part c = simple_good _ (sym c.all_simple.ensures ∙ c.if-not-all_simple.false) (sym c.good_part.ensures ∙ c.if-good_part.true)

pub returns : goal.returns
returns c = simple_bad _ (sym c.all_simple.ensures ∙ c.if-not-all_simple.false) (sym c.good_part.ensures ∙ c.if-good_part.false)
