use mathlib.Core.Path.{refl, ap, ◌∙◌}
use Rattle.std.specs.Prelude.{Ok}
use native.Mathlib.Omega.{arith}
use Rattle.variables.proofs.StoreLaws.{stored_there}
use Rattle.table_lines.proofs.LineLaws.{so_start, so_end, so_cut, turn_fault, turn_nothing, turn_define_fault, turn_defined, turn_global_fault, turn_set, turn_decided}
use Rattle.table_lines.proofs.lines.read_lines.Goals as goal

pub loop-at-init : goal.loop-at-init
loop-at-init c = record { inside = omega arith; few = omega arith; room = refl; places = refl; so_far = λ q a. so_start q _ c.new-variables.ensures (c.new-reader.ensures q.args) }

pub returns-in_default : goal.returns-in_default
returns-in_default c = record { gives = λ q a. so_cut (c.loop-at.invariant.so_far q a) c.loop-at-test.true (rw c.in_default.is at c.control_end.ensures) }

pub returns-in-Err : goal.returns-in-Err
returns-in-Err c = let w = rw c.in-Some.is at c.control_end.ensures in
    let l = c.loop-at.invariant in
    record { gives = λ q a. turn_fault (l.so_far q a) w a c.is_none.ensures c.line_action.ensures l.room l.places c.in-Err.is }

pub loop-at-preserved-in-Ok-Nothing : goal.loop-at-preserved-in-Ok-Nothing
loop-at-preserved-in-Ok-Nothing c = let w = rw c.in-Some.is at c.control_end.ensures in
    let l = c.loop-at.invariant in
    record { inside = w.high; few = omega (arith, w.few, l.few); room = c.line_action.ensures.room ∙ l.room; places = c.line_action.ensures.places ∙ l.places; so_far = λ q a. turn_nothing (l.so_far q a) w a c.is_none.ensures c.line_action.ensures l.room l.places (c.in-Ok-Nothing.is ∙ ap Ok c.in-Ok-Nothing.field-0-is) }

pub returns-in-Err-read_define : goal.returns-in-Err-read_define
returns-in-Err-read_define c = let w = rw c.in-Some.is at c.control_end.ensures in
    let l = c.loop-at.invariant in
    record { gives = λ q a. turn_define_fault (l.so_far q a) w a c.is_none.ensures c.line_action.ensures l.room l.places (c.in-Ok-Define.is ∙ ap Ok c.in-Ok-Define.field-0-is) (rw c.in-Err-read_define.is at c.read_define.ensures) }

pub loop-at-preserved-in-Ok : goal.loop-at-preserved-in-Ok
loop-at-preserved-in-Ok c = let w = rw c.in-Some.is at c.control_end.ensures in
    let l = c.loop-at.invariant in
    record { inside = w.high; few = omega (arith, w.few, l.few); room = c.line_action.ensures.room ∙ l.room; places = c.line_action.ensures.places ∙ l.places; so_far = λ q a. turn_defined (l.so_far q a) w a c.is_none.ensures c.line_action.ensures l.room l.places (c.in-Ok-Define.is ∙ ap Ok c.in-Ok-Define.field-0-is) (rw c.in-Ok.is at c.read_define.ensures) (stored_there c.loop-at.variables _ _ _ _ c.store.ensures.bytes c.store.ensures.sizes c.store.ensures.stored) }

pub returns-in-Err-global : goal.returns-in-Err-global
returns-in-Err-global c = let w = rw c.in-Some.is at c.control_end.ensures in
    let l = c.loop-at.invariant in
    record { gives = λ q a. turn_global_fault (l.so_far q a) w a c.is_none.ensures c.line_action.ensures l.room l.places (c.in-Ok-Global.is ∙ ap Ok c.in-Ok-Global.field-0-is) c.global.ensures c.in-Err-global.is }

pub loop-at-preserved-in-Ok-global : goal.loop-at-preserved-in-Ok-global
loop-at-preserved-in-Ok-global c = let w = rw c.in-Some.is at c.control_end.ensures in
    let l = c.loop-at.invariant in
    record { inside = w.high; few = omega (arith, w.few, l.few); room = c.line_action.ensures.room ∙ l.room; places = c.line_action.ensures.places ∙ l.places; so_far = λ q a. turn_set (l.so_far q a) w a c.is_none.ensures c.line_action.ensures l.room l.places (c.in-Ok-Global.is ∙ ap Ok c.in-Ok-Global.field-0-is) c.global.ensures c.in-Ok-global.is }

pub loop-at-preserved : goal.loop-at-preserved
loop-at-preserved c = let w = rw c.in-Some.is at c.control_end.ensures in
    let l = c.loop-at.invariant in
    record { inside = w.high; few = omega (arith, w.few, l.few); room = c.line_action.ensures.room ∙ l.room; places = c.line_action.ensures.places ∙ l.places; so_far = λ q a. turn_decided (l.so_far q a) w a c.is_none.ensures c.line_action.ensures l.room l.places (c.in-Ok-Decide.is ∙ ap Ok c.in-Ok-Decide.field-0-is) c.decide-decided.ensures }

pub returns : goal.returns
returns c = record { gives = λ q a. so_end (c.loop-at.invariant.so_far q a) c.loop-at-test.false }
