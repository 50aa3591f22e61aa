use Rattle.figures.proofs.Adding.{more_in, more_out}
use Rattle.figures.proofs.counts.one_more.Goals as goal

pub returns-then-n-lt-LIMIT : goal.returns-then-n-lt-LIMIT
returns-then-n-lt-LIMIT c = more_in _ c.if-n-lt-LIMIT.true

pub returns : goal.returns
returns c = more_out _ c.if-n-lt-LIMIT.false
