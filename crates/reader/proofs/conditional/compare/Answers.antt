use Rattle.std.proofs.lemmas.Result.{err_from_is_err_and}
use mathlib.Core.Path.{refl}
use Rattle.variables.proofs.TextLaws.{text_fault, text_value}
use Rattle.reader.proofs.FieldsLaws.{fields_end, fields_next}
use Rattle.reader.proofs.ConditionalLaws.{left_missing, left_fault, left_there}
use Rattle.reader.proofs.conditional.compare.Goals as goal

pub returns-then-from-min : goal.returns-then-from-min
returns-then-from-min c = let a = c.args in left_missing _ (fields_end a.text.now a.ends.now a.count c.min.ensures a.from c.if-from-min.true)

pub returns-in_err-n : goal.returns-in_err-n
returns-in_err-n c = let a = c.args in
    let g = fields_next a.text.now a.ends.now a.count c.min.ensures a.from c.if-from-min.false c.field-written.ensures in
    let q = err_from_is_err_and c.from_residual.result c.from_residual.ensures.1 in rw (q.1, q.2) (left_fault _ g (text_fault c.in_err-n.ensures refl))

pub returns : goal.returns
returns c = let a = c.args in
    let g = fields_next a.text.now a.ends.now a.count c.min.ensures a.from c.if-from-min.false c.field-written.ensures in
    left_there _ g (text_value c.in_ok-n.ensures refl) c.compare_with.ensures
