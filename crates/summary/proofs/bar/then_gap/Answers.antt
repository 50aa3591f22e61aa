use Rattle.output.proofs.BehindLaws.{after_as}
use Rattle.summary.proofs.BarLaws.{gap_first, gap_between, gap_last}
use Rattle.summary.proofs.bar.then_gap.Goals as goal

pub returns-then-n-lt10 : goal.returns-then-n-lt10
returns-then-n-lt10 c = after_as c.then_all.ensures (gap_first _ c.if-n-lt10.true)

pub returns-then-n-lt100 : goal.returns-then-n-lt100
returns-then-n-lt100 c = after_as c.then_all-then-n-lt100.ensures (gap_between 1 _ c.if-n-lt10.false c.if-n-lt100.true)

pub returns-then-n-lt1000 : goal.returns-then-n-lt1000
returns-then-n-lt1000 c = after_as c.then_all-then-n-lt1000.ensures (gap_between 2 _ c.if-n-lt100.false c.if-n-lt1000.true)

pub returns-then-n-lt10000 : goal.returns-then-n-lt10000
returns-then-n-lt10000 c = after_as c.then_all-then-n-lt10000.ensures (gap_between 3 _ c.if-n-lt1000.false c.if-n-lt10000.true)

pub returns-then-n-lt100000 : goal.returns-then-n-lt100000
returns-then-n-lt100000 c = after_as c.then_all-then-n-lt100000.ensures (gap_between 4 _ c.if-n-lt10000.false c.if-n-lt100000.true)

pub returns-then-n-lt1000000 : goal.returns-then-n-lt1000000
returns-then-n-lt1000000 c = after_as c.then_all-then-n-lt1000000.ensures (gap_between 5 _ c.if-n-lt100000.false c.if-n-lt1000000.true)

pub returns : goal.returns
returns c = after_as c.then_all-2.ensures (gap_last _ c.if-n-lt1000000.false)
