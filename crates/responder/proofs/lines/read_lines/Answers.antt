use mathlib.Core.Path.{refl}
use native.Mathlib.Omega.{arith}
use borrow.Author.Rules.{rules}
use borrow.Author.Tests.{not-false}
use lib.ListN.{length}
use Rattle.responder.proofs.CountedLaws.{handed_none}
use Rattle.responder.proofs.RunLaws.{so_far_start, so_far_serves, serves_sized}
use Rattle.responder.proofs.lines.read_lines.Goals as goal

pub loop-init : goal.loop-init
loop-init c = let p = c.requires in
    let a = c.args in
    let s = so_far_start a.source a.file.now (length a.line.now) p.0.3 a.line.now a.out.now a.records.now p.1 p.0.1 p.0.2 (handed_none a.start (omega arith) (omega arith)) in
    (p.0, refl, refl, refl, c.zeros-block.ensures, s.0, s.1)

pub take_loaded-run-requires : goal.take_loaded-run-requires
take_loaded-run-requires c = (c.read_some-loaded.ensures, c.loop.invariant.0)

pub loop-preserved : goal.loop-preserved
loop-preserved c = let l = c.loop in
    let t = c.take_loaded-run.ensures in
    let r = l.invariant.0 in
    let s = so_far_serves _ _ _ (rw (← l.invariant.1) r.3) _ _ (serves_sized _ _ _ l.invariant.1 t.serves) (rw r.1) (rw r.2) (rw t.ready.1) (rw t.ready.2) (l.invariant.5 (not-false _ c.if-not-run.false)) in
    (t.ready, search rules, search rules, search rules, search rules, s.0, s.1)
