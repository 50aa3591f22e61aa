use Rattle.checker.proofs.ReportLaws.{filled_done, filled_full}
use Rattle.checker.proofs.report.print_filled.Goals as goal

pub returns-in-Some : goal.returns-in-Some
returns-in-Some c = filled_done _ _ _ _ _ c.in-Some.is c.print.ensures

pub returns-in-None : goal.returns-in-None
returns-in-None c = filled_full _ _ _ _ c.in-None.is
