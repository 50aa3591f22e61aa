use mathlib.Core.Path.{sym, ◌∙◌}
use Rattle.entry.proofs.AddLaws.{option_late, option_added}
use Rattle.entry.proofs.entry.Entry.add_option.Goals as goal

pub returns-then-is_some : goal.returns-then-is_some
returns-then-is_some c = λ judge v j k t e h. option_late judge _ _ (rw (← c.find_pair.ensures) (sym c.is_some.ensures ∙ c.if-is_some.true))

pub returns : goal.returns
returns c = λ judge v j k t e h. rw c.with_rest.ensures (option_added judge _ _ _ (rw (← c.find_pair.ensures) (sym c.is_some.ensures ∙ c.if-is_some.false)) h (c.add.ensures v))
