use mathlib.Core.Path.{refl}
use Rattle.line.specs.Contract.{fields_in}
use Rattle.variables.proofs.TextLaws.{text_fault}
use Rattle.entry_line.proofs.ReadLaws.{field_there, fields_past}
use Rattle.entry_line.proofs.OwnLaws.{entry_fields, reached_start, reached_lost, reached_on, reached_end}
use Rattle.entry_line.proofs.own.own_settings.Goals as goal

pub loop-i-init : goal.loop-i-init
loop-i-init c = λ judge ps e s g. reached_start _ refl s g

pub returns-in_default : goal.returns-in_default
returns-in_default c = let a = c.args in
    let fs = fields_in a.text.now a.ends.now a.count in
    λ judge ps e f g. reached_lost fs c.loop-i.i (field_there a.text.now a.ends.now a.count c.min-most.ensures c.loop-i-test.true) c.field-written.ensures (c.loop-i.invariant judge ps e (c.new-own.ensures ps _ f) (entry_fields _ _ _ g)) (text_fault c.field_text.ensures c.in_default.is)

pub loop-i-preserved : goal.loop-i-preserved
loop-i-preserved c = let a = c.args in
    let fs = fields_in a.text.now a.ends.now a.count in
    λ judge ps e d g. reached_on fs c.loop-i.i (field_there a.text.now a.ends.now a.count c.min-most.ensures c.loop-i-test.true) c.field-written.ensures (c.loop-i.invariant judge ps e d g) c.field_text.ensures c.in-Ok.is c.kind-kind.ensures c.next-position.ensures c.with_text-own.ensures

pub returns : goal.returns
returns c = let a = c.args in
    let fs = fields_in a.text.now a.ends.now a.count in
    λ judge ps e f g. reached_end fs c.loop-i.i (fields_past a.text.now a.ends.now a.count c.min-most.ensures c.loop-i-test.false) (c.loop-i.invariant judge ps e (c.new-own.ensures ps _ f) (entry_fields _ _ _ g))
