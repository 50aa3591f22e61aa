use mathlib.Core.Path.{refl, ap, ◌∙◌}
use Rattle.std.proofs.lemmas.Result.{err_from_is_err_and}
use Rattle.variables.specs.Contract.{verbatim}
use Rattle.entry_line.proofs.ReadLaws.{field_there, fields_past, field_verbatim, read_none, read_fault, read_on, read_unfit, read_end}
use Rattle.entry_line.proofs.read.read_fields.Goals as goal

pub loop-i-init : goal.loop-i-init
loop-i-init c = read_none c.new-entry.ensures

pub add_field-requires : goal.add_field-requires
add_field-requires c = let a = c.args in λ t. ap verbatim c.field.ensures ∙ field_verbatim a.text.now a.ends.now a.count c.loop-i.i _ _ _ c.is_plain-plain.ensures c.min-most.ensures c.loop-i-test.true t

pub returns-in_err-entry : goal.returns-in_err-entry
returns-in_err-entry c =
    let a = c.args in
    let q = err_from_is_err_and c.from_residual.result c.from_residual.ensures.1 in
    rw (q.1, q.2) (read_fault c.loop-i.invariant (field_there a.text.now a.ends.now a.count c.min-most.ensures c.loop-i-test.true) c.field.ensures c.in_err-entry.ensures refl)

pub loop-i-preserved : goal.loop-i-preserved
loop-i-preserved c = let a = c.args in read_on c.loop-i.invariant (field_there a.text.now a.ends.now a.count c.min-most.ensures c.loop-i-test.true) c.field.ensures c.in_ok-entry.ensures refl

pub returns-in_err-finish : goal.returns-in_err-finish
returns-in_err-finish c =
    let a = c.args in
    let q = err_from_is_err_and c.from_residual-in_err-finish.result c.from_residual-in_err-finish.ensures.1 in
    rw (q.1, q.2) (read_unfit c.loop-i.invariant (fields_past a.text.now a.ends.now a.count c.min-most.ensures c.loop-i-test.false) c.in_err-finish.ensures)

pub returns : goal.returns
returns c = let a = c.args in read_end c.loop-i.invariant (fields_past a.text.now a.ends.now a.count c.min-most.ensures c.loop-i-test.false) c.in_ok-finish.ensures
