use mathlib.Core.Path.{refl, sym, ◌∙◌}
use Rattle.entry.specs.Field.{rest}
use Rattle.entry.proofs.AddLaws.{late_refused, path_alone}
use Rattle.entry.proofs.entry.Entry.add_path.Goals as goal

pub returns-then-is_some : goal.returns-then-is_some
returns-then-is_some c = λ j k t e es te h n w. late_refused es _ (rw (← c.find_pair.ensures) (sym c.is_some.ensures ∙ c.if-is_some.true))

pub returns : goal.returns
returns c = λ j k t e es te h n w. path_alone es _ _ (rw (← c.find_pair.ensures) (sym c.is_some.ensures ∙ c.if-is_some.false)) (c.add_full_path.ensures j k t e es rest te h n w refl)
