use Rattle.std.proofs.Common.{rules, arith}
use Rattle.suauth.specs.Contract.{asking}
use Rattle.suauth.proofs.AnswerLaws.{answer_is}
use Rattle.suauth.proofs.CutLaws.{promised}
use Rattle.suauth.proofs.su_answer.Goals as goal

pub returns-then-not-question_is_good : goal.returns-then-not-question_is_good
returns-then-not-question_is_good c = let a = c.args in promised a.file.now (asking a.target.now a.user.now a.groups.now) _ (grind (arith, answer_is))

pub returns-in-Err-Long : goal.returns-in-Err-Long
returns-in-Err-Long c = let a = c.args in promised a.file.now (asking a.target.now a.user.now a.groups.now) _ (grind (arith, answer_is, c.in-Err-Long.ensures))

pub returns-in-Err-RefusedAt : goal.returns-in-Err-RefusedAt
returns-in-Err-RefusedAt c = let a = c.args in promised a.file.now (asking a.target.now a.user.now a.groups.now) _ (grind (arith, answer_is, c.in-Err-RefusedAt.ensures))

pub returns-in-Ok : goal.returns-in-Ok
returns-in-Ok c = let a = c.args in promised a.file.now (asking a.target.now a.user.now a.groups.now) _ (grind (arith, answer_is, c.in-Ok.ensures))
