use Rattle.output.proofs.BehindLaws.{after_as, after_then, after_none}
use Rattle.summary.proofs.LineLaws.{counts_next, counts_end}
use Rattle.summary.proofs.lines.then_counts.Goals as goal

pub loop-i-init : goal.loop-i-init
loop-i-init c = λ new q v. v

pub loop-i-preserved : goal.loop-i-preserved
loop-i-preserved c = λ new q v. c.loop-i.invariant new q (after_as (after_then (after_then (after_then (after_then c.then_all-name.ensures c.then_decimal-count.ensures) c.then_bar-bar.ensures) c.then_all-last.ensures) v) (counts_next c.args.names.now c.args.counts.now c.args.most c.loop-i.i c.loop-i-test.true))

pub returns : goal.returns
returns c = c.loop-i.invariant _ _ (after_as after_none (counts_end c.args.names.now c.args.counts.now c.args.most c.loop-i.i c.loop-i-test.false))
