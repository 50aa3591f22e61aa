use Rattle.std.proofs.lemmas.Result.{err_from_is_err_and}
use Rattle.std.specs.Prelude.{Ok}
use mathlib.Core.Path.{refl, ap}
use Prim.Native.Nat.{◌+◌}
use Rattle.fault.proofs.Readings.{first_missing, first_fault, first_value}
use Rattle.variables.specs.Substitute.{field_text}
use Rattle.variables.specs.Contract.{scope_in}
use Rattle.variables.proofs.TextLaws.{text_fault, text_value}
use Rattle.reader.specs.Colon.{before_rest}
use Rattle.reader.proofs.FieldsLaws.{fields_end, fields_next}
use Rattle.reader.proofs.ConditionalLaws.{rest_missing, rest_there}
use Rattle.reader.proofs.conditional.compare_right.Goals as goal

pub returns-then-from-most : goal.returns-then-from-most
returns-then-from-most c = let a = c.args in
    let sc = scope_in a.user.now a.host.now a.bytes.now a.sizes.now a.names in
    first_missing (field_text sc) (before_rest a.operator a.left.now) (fields_end a.text.now a.ends.now a.count c.min-most.ensures a.from c.if-from-most.true)

pub returns-in_err-n : goal.returns-in_err-n
returns-in_err-n c = let a = c.args in
    let sc = scope_in a.user.now a.host.now a.bytes.now a.sizes.now a.names in
    let g = fields_next a.text.now a.ends.now a.count c.min-most.ensures a.from c.if-from-most.false c.field-written.ensures in
    let q = err_from_is_err_and c.from_residual.result c.from_residual.ensures.1 in rw (q.1, q.2) (first_fault (field_text sc) (before_rest a.operator a.left.now) g (text_fault c.in_err-n.ensures refl))

pub returns-then-from-most-2 : goal.returns-then-from-most-2
returns-then-from-most-2 c = let a = c.args in
    let sc = scope_in a.user.now a.host.now a.bytes.now a.sizes.now a.names in
    let g = fields_next a.text.now a.ends.now a.count c.min-most.ensures a.from c.if-from-most.false c.field-written.ensures in
    first_value (field_text sc) (before_rest a.operator a.left.now) g (text_value c.in_ok-n.ensures refl) (rest_missing a.operator a.left.now _ (fields_end a.text.now a.ends.now a.count c.min-most.ensures (a.from + 1) c.if-from-most-2.true))

pub returns : goal.returns
returns c = let a = c.args in
    let sc = scope_in a.user.now a.host.now a.bytes.now a.sizes.now a.names in
    let g = fields_next a.text.now a.ends.now a.count c.min-most.ensures a.from c.if-from-most.false c.field-written.ensures in
    let h = fields_next a.text.now a.ends.now a.count c.min-most.ensures (a.from + 1) c.if-from-most-2.false refl in
    first_value (field_text sc) (before_rest a.operator a.left.now) g (text_value c.in_ok-n.ensures refl) (rest_there a.operator a.left.now _ h (ap Ok c.holds.ensures))
