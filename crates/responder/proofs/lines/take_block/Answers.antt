use mathlib.Core.Path.{refl, ap, ◌∙◌}
use native.Mathlib.Omega.{arith}
use borrow.Author.Rules.{rules}
use lib.ListN.{length, length-drop}
use Rattle.text.proofs.Laws.{part_rest}
use Rattle.responder.proofs.BlockLaws.{not_going}
use Rattle.responder.proofs.CountedLaws.{handed_none}
use Rattle.responder.proofs.SeriesLaws.{takes_logged, takes_sized, stand_written, served_none, served_on}
use Rattle.responder.proofs.lines.take_block.Goals as goal

pub loop-i-init : goal.loop-i-init
loop-i-init c = (omega arith, c.requires, refl, refl, refl, served_none _ _ _ _ (handed_none _ (omega arith) (omega arith)))

pub answer_block-taken-requires : goal.answer_block-taken-requires
answer_block-taken-requires c = let r = c.loop-i.invariant.1 in (r.3, (r.0, omega (arith, r.1), omega (arith, r.2)))

pub write_waiting-run-requires : goal.write_waiting-run-requires
write_waiting-run-requires c = let w = c.answer_block-taken.ensures.reached.within in (w.1, w.2)

pub overflow_add-i : goal.overflow_add-i
overflow_add-i c = let l = c.loop-i in
    let s = c.args.block.now in
    let z = ap length (part_rest l.i s) ∙ length-drop l.i s in
    omega (arith, c.answer_block-taken.ensures.reached.part, z, l.invariant.0)

pub loop-i-smaller : goal.loop-i-smaller
loop-i-smaller c = let l = c.loop-i in
    let s = c.args.block.now in
    let z = ap length (part_rest l.i s) ∙ length-drop l.i s in
    let e = c.answer_block-taken.ensures.reached in
    let r = l.invariant.1 in
    let m = e.moves (omega (arith, r.1, r.4), omega (arith, r.2, r.5)) (omega (arith, z, c.loop-i-test.true)) in
    omega (arith, m, e.part, z)

pub loop-i-preserved : goal.loop-i-preserved
loop-i-preserved c = let l = c.loop-i in
    let s = c.args.block.now in
    let z = ap length (part_rest l.i s) ∙ length-drop l.i s in
    let e = c.answer_block-taken.ensures in
    let w = c.write_waiting-run.ensures in (
      omega (arith, e.reached.part, z, l.invariant.0),
      (omega (arith, w.line, e.reached.within.0), w.answers, w.records, search rules, search rules, search rules),
      search rules,
      search rules,
      search rules,
      served_on _ _ _ _ _ _ (part_rest l.i s) l.invariant.5 (takes_logged _ _ c.is_open-is_open.ensures (takes_sized _ _ l.invariant.2 e.takes)) w.handed w.going (stand_written _ _ _ c.answer_block-taken.result.progress _ w.line w.answers w.records),
    )

pub returns-else-run : goal.returns-else-run
returns-else-run c = let l = c.loop-i in record { ready = l.invariant.1; follows = record { bytes = l.i; served = l.invariant.5; all = not_going c.if-run.false } }

pub returns-after-loop-i : goal.returns-after-loop-i
returns-after-loop-i c = let l = c.loop-i in record { ready = l.invariant.1; follows = record { bytes = l.i; served = l.invariant.5; all = λ e. omega (arith, c.loop-i-test.false, l.invariant.0) } }
