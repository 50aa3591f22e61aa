use Rattle.supertab_c.proofs.FigureLaws.{new_done, new_short}
use Rattle.supertab_c.proofs.log_figures.supertab_figures_new.Goals as goal

pub returns-in-Ok : goal.returns-in-Ok
returns-in-Ok c = new_done _ _ c.clear.ensures c.in-Ok.is

pub returns-in-Err : goal.returns-in-Err
returns-in-Err c = new_short _ _ c.clear.ensures c.in-Err.is
