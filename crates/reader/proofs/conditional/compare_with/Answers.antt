use Rattle.std.proofs.lemmas.Result.{err_from_is_err_and}
use Rattle.fault.proofs.Readings.{first_missing, first_fault, first_value}
use Rattle.variables.specs.Substitute.{field_as}
use Rattle.variables.specs.Contract.{scope_in}
use Rattle.reader.specs.Colon.{operator_of, behind_operator}
use Rattle.reader.proofs.FieldsLaws.{fields_end, fields_next}
use Rattle.reader.proofs.conditional.compare_with.Goals as goal

pub returns-then-from-min : goal.returns-then-from-min
returns-then-from-min c = let a = c.args in
    let sc = scope_in a.user.now a.host.now a.bytes.now a.sizes.now a.names in
    first_missing (field_as sc operator_of) (behind_operator sc a.left.now) (fields_end a.text.now a.ends.now a.count c.min.ensures a.from c.if-from-min.true)

pub returns-in_err-operator : goal.returns-in_err-operator
returns-in_err-operator c = let a = c.args in
    let sc = scope_in a.user.now a.host.now a.bytes.now a.sizes.now a.names in
    let g = fields_next a.text.now a.ends.now a.count c.min.ensures a.from c.if-from-min.false c.field-written.ensures in
    let q = err_from_is_err_and c.from_residual.result c.from_residual.ensures.1 in rw (q.1, q.2) (first_fault (field_as sc operator_of) (behind_operator sc a.left.now) g c.in_err-operator.ensures)

pub returns : goal.returns
returns c = let a = c.args in
    let sc = scope_in a.user.now a.host.now a.bytes.now a.sizes.now a.names in
    let g = fields_next a.text.now a.ends.now a.count c.min.ensures a.from c.if-from-min.false c.field-written.ensures in
    first_value (field_as sc operator_of) (behind_operator sc a.left.now) g c.in_ok-operator.ensures c.compare_right.ensures
