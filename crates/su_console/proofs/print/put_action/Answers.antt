use Rattle.su_console.specs.Printed.{action_text}
use Rattle.su_console.proofs.print.put_action.Goals as goal

pub returns : goal.returns
unfolding action_text
returns c = c.then_all.ensures.behind _ _ _ (c.then_decimal-numbered.ensures.behind _ _ _ c.put_all.ensures)
