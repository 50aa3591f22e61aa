use Rattle.std.proofs.lemmas.Result.{err_from_is_err_and}
use mathlib.Core.Path.{◌≡◌, refl}
use Prim.Native.Nat.{◌+◌}
use native.Mathlib.Omega.{arith}
use borrow.Author.Rules.{rules}
use lib.ListN.{length}
use Rattle.fault.proofs.Readings.{then_fault, then_value, first_missing, first_fault, first_value}
use Rattle.variables.specs.Define.{define_text}
use Rattle.variables.specs.Substitute.{field_as}
use Rattle.variables.specs.Contract.{scope_in}
use Rattle.variables.proofs.TextLaws.{text_fault, text_value, text_fits}
use Rattle.reader.specs.Colon.{last_read}
use Rattle.reader.proofs.FieldsLaws.{fields_end, fields_next, checked_good}
use Rattle.reader.proofs.DefineLaws.{text_before, text_last}
use Rattle.reader.proofs.define.read_text.Goals as goal

pub returns-then-from-most : goal.returns-then-from-most
returns-then-from-most c = let a = c.args in
    let sc = scope_in a.user.now a.host.now a.bytes.now a.sizes.now a.names in
    record { reading = first_missing (field_as sc define_text) (last_read sc) (fields_end a.text.now a.ends.now a.count c.min-most.ensures a.from c.if-from-most.true); within = omega arith }

pub returns-in_err-n : goal.returns-in_err-n
returns-in_err-n c = let a = c.args in
    let sc = scope_in a.user.now a.host.now a.bytes.now a.sizes.now a.names in
    let g = fields_next a.text.now a.ends.now a.count c.min-most.ensures a.from c.if-from-most.false c.field-written.ensures in
    let q = err_from_is_err_and c.from_residual.result c.from_residual.ensures.1 in rw (q.1, q.2) (record { reading = first_fault (field_as sc define_text) (last_read sc) g (then_fault define_text (text_fault c.in_err-n.ensures refl)); within = omega arith })

pub returns-in_err-check_text : goal.returns-in_err-check_text
returns-in_err-check_text c = let a = c.args in
    let sc = scope_in a.user.now a.host.now a.bytes.now a.sizes.now a.names in
    let g = fields_next a.text.now a.ends.now a.count c.min-most.ensures a.from c.if-from-most.false c.field-written.ensures in
    let t = then_value define_text (text_value c.in_ok-n.ensures refl) c.in_err-check_text.ensures in
    let q = err_from_is_err_and c.from_residual-in_err-check_text.result c.from_residual-in_err-check_text.ensures.1 in rw (q.1, q.2) (record { reading = first_fault (field_as sc define_text) (last_read sc) g t; within = omega arith })

pub returns-then-from-most-2 : goal.returns-then-from-most-2
returns-then-from-most-2 c = let a = c.args in
    let sc = scope_in a.user.now a.host.now a.bytes.now a.sizes.now a.names in
    let g = fields_next a.text.now a.ends.now a.count c.min-most.ensures a.from c.if-from-most.false c.field-written.ensures in
    let h = fields_next a.text.now a.ends.now a.count c.min-most.ensures (a.from + 1) c.if-from-most-2.true c.field-next.ensures in
    let t = then_value define_text (text_value c.in_ok-n.ensures refl) (checked_good _ c.in_ok-check_text.ensures refl) in
    record { reading = first_value (field_as sc define_text) (last_read sc) g t (text_before sc _ h c.surplus.ensures); within = omega arith }

pub returns : goal.returns
returns c = let a = c.args in
    let sc = scope_in a.user.now a.host.now a.bytes.now a.sizes.now a.names in
    let g = fields_next a.text.now a.ends.now a.count c.min-most.ensures a.from c.if-from-most.false c.field-written.ensures in
    let h = fields_end a.text.now a.ends.now a.count c.min-most.ensures (a.from + 1) c.if-from-most-2.false in
    let t = then_value define_text (text_value c.in_ok-n.ensures refl) (checked_good _ c.in_ok-check_text.ensures refl) in
    let l : length c.field_text.new.out ≡ 1024 = search rules in
    record { reading = first_value (field_as sc define_text) (last_read sc) g t (text_last sc _ h); within = omega (arith, text_fits c.in_ok-n.ensures refl, l) }
