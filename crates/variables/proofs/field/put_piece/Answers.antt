use Rattle.variables.proofs.FieldLaws.{lays}
use Rattle.variables.proofs.field.put_piece.Goals as goal

pub returns : goal.returns
returns c = lays _ c.requires c.put_all.ensures c.count_of.ensures
