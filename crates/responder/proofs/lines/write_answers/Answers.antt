use Rattle.responder.proofs.CountedLaws.{prints_as}
use Rattle.responder.proofs.lines.write_answers.Goals as goal

pub returns : goal.returns
returns c = prints_as c.requires c.print.ensures
