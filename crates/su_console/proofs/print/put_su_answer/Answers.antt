use mathlib.Core.Path.{ap}
use native.Mathlib.Omega.{arith}
use Rattle.suauth.specs.Answer.{told_of}
use Rattle.su_console.proofs.PrintLaws.{action_printed, none_printed, refusal_printed}
use Rattle.su_console.proofs.print.put_su_answer.Goals as goal

pub returns-in-Deny : goal.returns-in-Deny
unfolding told_of
returns-in-Deny c = action_printed (ap told_of c.in-Deny.is) (omega arith) c.put_action.ensures

pub returns-in-NoPassword : goal.returns-in-NoPassword
unfolding told_of
returns-in-NoPassword c = action_printed (ap told_of c.in-NoPassword.is) (omega arith) c.put_action-in-NoPassword.ensures

pub returns-in-OwnPassword : goal.returns-in-OwnPassword
unfolding told_of
returns-in-OwnPassword c = action_printed (ap told_of c.in-OwnPassword.is) (omega arith) c.put_action-in-OwnPassword.ensures

pub returns-in-NoRule : goal.returns-in-NoRule
unfolding told_of
returns-in-NoRule c = none_printed (ap told_of c.in-NoRule.is) c.put_all.ensures

pub returns-in-MalformedQuestion : goal.returns-in-MalformedQuestion
unfolding told_of
returns-in-MalformedQuestion c = refusal_printed (ap told_of c.in-MalformedQuestion.is) (omega arith) (omega arith) c.put_refusal.ensures

pub returns-in-LongFile : goal.returns-in-LongFile
unfolding told_of
returns-in-LongFile c = refusal_printed (ap told_of c.in-LongFile.is) (omega arith) (omega arith) c.put_refusal-in-LongFile.ensures

pub returns-in-RefusedByte : goal.returns-in-RefusedByte
unfolding told_of
returns-in-RefusedByte c = refusal_printed (ap told_of c.in-RefusedByte.is) (omega arith) (omega arith) c.put_refusal-in-RefusedByte.ensures

pub returns-in-CutShort : goal.returns-in-CutShort
unfolding told_of
returns-in-CutShort c = refusal_printed (ap told_of c.in-CutShort.is) (omega arith) (omega arith) c.put_refusal-in-CutShort.ensures

pub returns-in-MalformedLine : goal.returns-in-MalformedLine
unfolding told_of
returns-in-MalformedLine c = refusal_printed (ap told_of c.in-MalformedLine.is) (omega arith) (omega arith) c.put_refusal-in-MalformedLine.ensures
