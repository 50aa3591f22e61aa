use Rattle.variables.proofs.FieldLaws.{refers_missing, refers_unknown}
use Rattle.variables.proofs.field.put_reference.Goals as goal

pub returns-in_err-place : goal.returns-in_err-place
returns-in_err-place c = rw c.from_residual.ensures (refers_missing _ c.in_err-place.ensures)

pub returns-in_err-text : goal.returns-in_err-text
returns-in_err-text c = rw c.from_residual-in_err-text.ensures (refers_unknown _ c.in_ok-place.ensures c.in_err-text.ensures)
