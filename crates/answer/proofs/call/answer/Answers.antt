use borrow.Author.Tests.{not-true, not-false}
use Rattle.answer.proofs.CallLaws.{asked_with, call_small, call_malformed, call_read, asks_none, asks_some}
use Rattle.answer.proofs.call.answer.Goals as goal

pub returns-then-buffer-lt-BUFFER : goal.returns-then-buffer-lt-BUFFER
returns-then-buffer-lt-BUFFER c = call_small _ _ _ c.if-buffer-lt-BUFFER.true

pub returns-then-not-question_is_good : goal.returns-then-not-question_is_good
returns-then-not-question_is_good c = let z = c.args in call_malformed _ _ _ c.if-buffer-lt-BUFFER.false (asks_none z.command.now z.user.now z.groups.now z.host.now z.minute z.last z.args.now (c.question_is_good.ensures z.last) (not-true _ c.if-not-question_is_good.true-raw))

pub returns : goal.returns
returns c = let z = c.args in let q = asks_some z.command.now z.user.now z.groups.now z.host.now z.minute z.last z.args.now (c.question_is_good.ensures z.last) (not-false _ c.if-not-question_is_good.false-raw) in call_read _ _ _ c.if-buffer-lt-BUFFER.false q.1 (c.read_table.ensures.reads c.if-buffer-lt-BUFFER.false q.0 (asked_with z.command.now z.user.now z.groups.now z.host.now z.minute z.last z.args.now q.1))
