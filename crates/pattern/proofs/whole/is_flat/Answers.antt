use Rattle.pattern.proofs.FlatLaws.{flat_opens, flat_ends, flat_fails}
use Rattle.pattern.proofs.whole.is_flat.Goals as goal

pub returns-in-Some-Ends : goal.returns-in-Some-Ends
returns-in-Some-Ends c = flat_ends _ _ _ (rw c.in-Some-Ends.field-0-is at c.in-Some-Ends.ensures)

pub returns-in-Some-Opens : goal.returns-in-Some-Opens
returns-in-Some-Opens c = flat_opens _ _ _ (rw c.in-Some-Opens.field-0-is at c.in-Some-Opens.ensures)

pub returns-in-None : goal.returns-in-None
returns-in-None c = flat_fails _ _ c.in-None.ensures
