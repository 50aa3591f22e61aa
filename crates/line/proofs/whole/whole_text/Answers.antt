use Rattle.std.proofs.Common.{le-ltb}
use Rattle.line.specs.Whole.{whole_text}
use Rattle.line.proofs.LineLaws.{short_text}
use Rattle.line.proofs.whole.whole_text.Goals as goal

pub returns : goal.returns
unfolding whole_text
returns c = let h = le-ltb _ _ c.if-end-text.false in rw (← c.acceptance_of.ensures, c.in_ok-acceptance_of.was, short_text, ← c.last_end-end.ensures, h)
