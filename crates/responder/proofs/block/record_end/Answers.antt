use Rattle.responder.proofs.BlockLaws.{end_on, end_off}
use Rattle.responder.proofs.block.record_end.Goals as goal

pub returns-then-logged : goal.returns-then-logged
returns-then-logged c = end_on _ c.if-logged.true

pub returns : goal.returns
returns c = end_off _ c.if-logged.false
