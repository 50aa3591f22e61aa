use mathlib.Core.Path.{sym}
use Rattle.output.proofs.BehindLaws.{after_as, after_then, after_none}
use Rattle.summary.proofs.BarLaws.{marks_start, marks_next, marks_end}
use Rattle.summary.proofs.bar.then_marks.Goals as goal

pub loop-init : goal.loop-init
loop-init c = λ new q v. after_as v (sym (marks_start c.args.marks))

pub loop-preserved : goal.loop-preserved
loop-preserved c = λ new q v. c.loop.invariant new q (after_as (after_then c.then_byte-last.ensures v) (marks_next c.args.marks c.loop.counter c.loop-test.true))

pub returns : goal.returns
returns c = c.loop.invariant _ _ (after_as after_none (marks_end c.args.marks c.loop.counter c.loop-test.false))
