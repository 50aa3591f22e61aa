use Rattle.std.proofs.Common.{◌∙◌}
use Rattle.text.proofs.Laws.{part_rest}
use Rattle.glob.proofs.SetLaws.{good_none, good_some}
use Rattle.glob.proofs.set.good_set.Goals as goal

pub returns-then-from-body : goal.returns-then-from-body
returns-then-from-body c = c.in_order.ensures ∙ rw part_rest (good_some _ _ _ c.past_head-from.ensures.0 c.if-from-body.true)

pub returns-else-from-body : goal.returns-else-from-body
returns-else-from-body c = good_none _ _ _ c.past_head-from.ensures.0 c.if-from-body.false
