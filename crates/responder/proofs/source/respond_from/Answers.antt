use Rattle.responder.proofs.SourceLaws.{from_table, from_su_file}
use Rattle.responder.proofs.source.respond_from.Goals as goal

pub returns-in-Table : goal.returns-in-Table
returns-in-Table c = let w = c.respond in from_table c.in-Table.is _ _ _ _ _ _ w.result w.ensures

pub returns-in-SuFile : goal.returns-in-SuFile
returns-in-SuFile c = let w = c.respond_su in from_su_file c.in-SuFile.is _ _ _ _ _ w.result w.ensures
