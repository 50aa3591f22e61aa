use borrow.Author.Rules.{rules}
use Rattle.supertab_c.proofs.ReportLaws.{cause_counted}
use Rattle.supertab_c.proofs.report.index_of.Goals as goal

pub returns : goal.returns
returns c = cause_counted _ _ c.index.ensures (search rules) c.counted_as.ensures
