use Rattle.text.proofs.Laws.{part_rest}
use Rattle.glob.proofs.SetLaws.{in_is}
use Rattle.glob.proofs.set.in_set.Goals as goal

pub returns : goal.returns
returns c = rw (c.head_is.ensures, c.in_ranges.ensures, part_rest) (in_is _ _ _ _ c.past_head.ensures.0)
