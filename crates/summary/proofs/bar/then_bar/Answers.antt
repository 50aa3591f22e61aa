use Rattle.output.proofs.BehindLaws.{after_as, after_then, after_none}
use Rattle.summary.proofs.BarLaws.{no_bar, some_bar}
use Rattle.summary.proofs.bar.then_bar.Goals as goal

pub returns-then-length-eq0 : goal.returns-then-length-eq0
returns-then-length-eq0 c = after_as after_none (no_bar _ _ c.bar_length-length.ensures c.if-length-eq0.true)

pub returns : goal.returns
returns c = after_as (after_then c.then_gap-gap.ensures c.then_marks.ensures) (some_bar _ _ c.bar_length-length.ensures c.if-length-eq0.false)
