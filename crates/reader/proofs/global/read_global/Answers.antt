use Rattle.std.proofs.lemmas.Result.{err_from_is_err_and}
use mathlib.Core.Path.{refl}
use native.Mathlib.Omega.{arith}
use Rattle.line.specs.Contract.{fields_in}
use Rattle.line.proofs.AccessLaws.{fields_count}
use Rattle.variables.proofs.TextLaws.{text_fault, text_value, text_short}
use Rattle.reader.proofs.GlobalLaws.{so_far_none, so_far_more, reads_none, reads_bad, reads_stopped, reads_twice, reads_all}
use Rattle.reader.proofs.global.read_global.Goals as goal

pub returns-then-from-most : goal.returns-then-from-most
returns-then-from-most c = let a = c.args in
    let k = fields_count a.text.now a.ends.now a.count in
    record { reads_with = λ ps h. reads_none _ (fields_in a.text.now a.ends.now a.count) a.from (omega (arith, k)) }

pub loop-i-init : goal.loop-i-init
loop-i-init c = λ ps h. so_far_none h

pub returns-in_err-n : goal.returns-in_err-n
returns-in_err-n c = let a = c.args in
    let k = fields_count a.text.now a.ends.now a.count in
    let q = err_from_is_err_and c.from_residual.result c.from_residual.ensures.1 in rw (q.1, q.2) (record { reads_with = λ ps h. reads_bad (c.loop-i.invariant ps (c.new-read.ensures ps _ h)) (omega (arith, k)) c.field-written.ensures (text_fault c.in_err-n.ensures refl) })

pub returns-in_err-read : goal.returns-in_err-read
returns-in_err-read c = let a = c.args in
    let k = fields_count a.text.now a.ends.now a.count in
    let q = err_from_is_err_and c.from_residual-in_err-read.result c.from_residual-in_err-read.ensures.1 in rw (q.1, q.2) (record { reads_with = λ ps h. let w = c.loop-i.invariant ps (c.new-read.ensures ps _ h) in reads_stopped w (omega (arith, k)) c.field-written.ensures (text_value c.in_ok-n.ensures refl) (c.in_err-read.ensures.adds_to ps w.settings (text_short c.in_ok-n.ensures refl) w.sums) })

pub loop-i-preserved : goal.loop-i-preserved
loop-i-preserved c = let a = c.args in
    let k = fields_count a.text.now a.ends.now a.count in
    λ ps h. let w = c.loop-i.invariant ps h in so_far_more w (omega (arith, k)) c.field-written.ensures (text_value c.in_ok-n.ensures refl) (c.in_ok-read.ensures.adds_to ps w.settings (text_short c.in_ok-n.ensures refl) w.sums)

pub returns-then-twice : goal.returns-then-twice
returns-then-twice c = let a = c.args in
    let k = fields_count a.text.now a.ends.now a.count in
    record { reads_with = λ ps h. reads_twice (c.loop-i.invariant ps (c.new-read.ensures ps _ h)) (omega (arith, k)) (omega (arith, k)) c.twice.ensures c.if-twice.true }

pub returns : goal.returns
returns c = let a = c.args in
    let k = fields_count a.text.now a.ends.now a.count in
    record { reads_with = λ ps h. reads_all (c.loop-i.invariant ps (c.new-read.ensures ps _ h)) (omega (arith, k)) (omega (arith, k)) c.twice.ensures c.if-twice.false }
