use Rattle.responder.proofs.CountedLaws.{logs_first}
use Rattle.responder.proofs.lines.append_records.Goals as goal

pub returns : goal.returns
returns c = logs_first c.args.records.now c.args.part.now c.args.count c.requires c.with_waiting-due.ensures c.append.ensures
