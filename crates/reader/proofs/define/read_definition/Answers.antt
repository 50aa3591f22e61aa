use Rattle.std.proofs.lemmas.Result.{err_from_is_err_and}
use mathlib.Core.Path.{◌≡◌, refl}
use native.Mathlib.Omega.{arith}
use borrow.Author.Rules.{rules}
use lib.ListN.{length}
use Rattle.fault.proofs.Readings.{then_fault, then_value}
use Rattle.variables.specs.Define.{define_name}
use Rattle.variables.proofs.TextLaws.{text_fault, text_value, text_fits}
use Rattle.reader.proofs.FieldsLaws.{fields_end, fields_next, reading_text, length_fits, checked_good}
use Rattle.reader.proofs.DefineLaws.{name_missing, name_fault, named_fault, named_text}
use Rattle.reader.proofs.define.read_definition.Goals as goal

pub returns-then-from-min : goal.returns-then-from-min
returns-then-from-min c = let a = c.args in record { reading = name_missing _ (fields_end a.text.now a.ends.now a.count c.min.ensures a.from c.if-from-min.true); within = tt }

pub returns-in_err-k : goal.returns-in_err-k
returns-in_err-k c = let a = c.args in
    let g = fields_next a.text.now a.ends.now a.count c.min.ensures a.from c.if-from-min.false c.field-written.ensures in
    let q = err_from_is_err_and c.from_residual.result c.from_residual.ensures.1 in rw (q.1, q.2) (record { reading = name_fault _ g (then_fault define_name (text_fault c.in_err-k.ensures refl)); within = tt })

pub returns-in_err-check_name : goal.returns-in_err-check_name
returns-in_err-check_name c = let a = c.args in
    let g = fields_next a.text.now a.ends.now a.count c.min.ensures a.from c.if-from-min.false c.field-written.ensures in
    let n = then_value define_name (text_value c.in_ok-k.ensures refl) c.in_err-check_name.ensures in
    let q = err_from_is_err_and c.from_residual-in_err-check_name.result c.from_residual-in_err-check_name.ensures.1 in rw (q.1, q.2) (record { reading = name_fault _ g n; within = tt })

pub returns-in_err-n : goal.returns-in_err-n
returns-in_err-n c = let a = c.args in
    let g = fields_next a.text.now a.ends.now a.count c.min.ensures a.from c.if-from-min.false c.field-written.ensures in
    let n = then_value define_name (text_value c.in_ok-k.ensures refl) (checked_good _ c.in_ok-check_name.ensures refl) in
    let q = err_from_is_err_and c.from_residual-in_err-n.result c.from_residual-in_err-n.ensures.1 in rw (q.1, q.2) (record { reading = named_fault _ g n c.in_err-n.ensures.reading; within = tt })

pub returns : goal.returns
returns c = let a = c.args in
    let g = fields_next a.text.now a.ends.now a.count c.min.ensures a.from c.if-from-min.false c.field-written.ensures in
    let n = then_value define_name (text_value c.in_ok-k.ensures refl) (checked_good _ c.in_ok-check_name.ensures refl) in
    let l : length c.field_text.new.out ≡ 1024 = search rules in
    let t = c.in_ok-n.ensures in
    record { reading = named_text _ g n (reading_text _ t.reading refl); within = (omega (arith, text_fits c.in_ok-k.ensures refl, l), length_fits t.within refl) }
