use mathlib.Core.Path.{refl}
use Rattle.console.proofs.NumberLaws.{minute_none, minute_over, minute_good}
use Rattle.console.proofs.question_line.read_minute.Goals as goal

pub returns-in_err-v : goal.returns-in_err-v
returns-in_err-v c = rw c.from_residual.ensures (minute_none _ c.in_err-v.ensures)

pub returns-then-v : goal.returns-then-v
returns-then-v c = minute_over _ _ c.in_ok-v.ensures c.if-v.true

pub returns : goal.returns
returns c = minute_good _ _ _ c.in_ok-v.ensures c.if-v.false refl
