use Rattle.su_console.proofs.RespondLaws.{response_fits, responded}
use Rattle.su_console.proofs.respond.respond_su.Goals as goal

pub returns-in_err-written : goal.returns-in_err-written
returns-in_err-written c = absurd (let a = c.args in response_fits a.file.now a.line.now c.put_su_answer.ensures c.answer_su_line.ensures c.if-out-lt-BUFFER.false c.in_err-written.was)

pub returns : goal.returns
returns c = let a = c.args in responded a.file.now a.line.now c.put_su_answer.ensures c.answer_su_line.ensures c.if-out-lt-BUFFER.false c.in_ok-written.was
