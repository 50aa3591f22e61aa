use Rattle.supertab_c.proofs.CallLaws.{call_short, call_told}
use Rattle.supertab_c.proofs.call.supertab_answer.Goals as goal

pub returns-then-report-lt-LENGTH : goal.returns-then-report-lt-LENGTH
returns-then-report-lt-LENGTH c = call_short _ _ _ c.args.report.now c.if-report-lt-LENGTH.true

pub returns : goal.returns
returns c = call_told c.args.table.now c.args.command.now c.args.user.now c.args.groups.now c.args.host.now _ _ _ c.args.args.now c.args.buffer.now c.args.report.now c.if-report-lt-LENGTH.false c.minute_of-week_minute.ensures c.ranges.age c.last_of-last.ensures c.answer-told.ensures.meaning c.numbers_of-numbers.ensures c.put_numbers.ensures c.number_of.ensures
