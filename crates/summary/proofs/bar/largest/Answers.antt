use mathlib.Core.Path.{sym, ◌∙◌}
use Rattle.summary.proofs.BarLaws.{larger_start, larger_next, larger_end}
use Rattle.summary.proofs.bar.largest.Goals as goal

pub loop-n-init : goal.loop-n-init
loop-n-init c = larger_start c.args.counts.now

pub loop-n-preserved : goal.loop-n-preserved
loop-n-preserved c = larger_next c.args.counts.now c.loop-n.n-index c.loop-n.most _ c.loop-n-test.true c.max-most.ensures ∙ c.loop-n.invariant

pub returns : goal.returns
returns c = sym (larger_end c.args.counts.now c.loop-n.n-index c.loop-n.most c.loop-n-test.false) ∙ c.loop-n.invariant
