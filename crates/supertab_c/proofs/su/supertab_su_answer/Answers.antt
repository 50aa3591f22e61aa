use borrow.Author.Rules.{rules}
use Rattle.supertab_c.proofs.SuLaws.{su_short, su_told_law}
use Rattle.supertab_c.proofs.su.supertab_su_answer.Goals as goal

pub returns-then-report-eq0 : goal.returns-then-report-eq0
returns-then-report-eq0 c = su_short _ _ c.args.report.now c.if-report-eq0.true

pub returns : goal.returns
returns c = let a = c.args in su_told_law a.file.now _ a.report.now c.if-report-eq0.false c.su_answer-answer.ensures.meaning c.told_by-told.ensures (search rules) c.counted_as.ensures
