use Rattle.console.specs.QuestionLine.{asked_in}
use Rattle.console.proofs.RespondLaws.{told_for_law, recorded, response_fits, responded}
use Rattle.console.proofs.respond.respond.Goals as goal

pub returns-in_err-written : goal.returns-in_err-written
returns-in_err-written c = let a = c.args in
    absurd (response_fits a.table.now a.line.now c.put_answer.ensures (told_for_law a.table.now (asked_in a.line.now) c.answer_line-answered.ensures.outcome) c.if-out-lt-BUFFER.false c.in_err-written.was)

pub returns : goal.returns
returns c = let a = c.args in
    let x = c.answer_line-answered.ensures in
    responded a.table.now a.line.now c.put_answer.ensures (told_for_law a.table.now (asked_in a.line.now) x.outcome) c.if-out-lt-BUFFER.false _ _ c.in_ok-written.was
    (recorded a.table.now a.line.now x (c.record_answer-recorded.ensures _) c.bytes_recorded.ensures)
