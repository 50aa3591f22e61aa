use mathlib.Core.Path.{◌≡◌, refl, subst}
use Prim.Native.Nat.{ℕ}
use native.Mathlib.Omega.{arith}
use borrow.Author.Rules.{rules}
use lib.ListN.{length, take}
use lib.Seq.{length-take-le}
use Rattle.responder.specs.Contract.{stand_in, Takes}
use Rattle.responder.proofs.BlockLaws.{waits_as, moved}
use Rattle.responder.proofs.SeriesLaws.{takes_none, takes_next, takes_sized}
use Rattle.responder.proofs.block.answer_block.Goals as goal

pub loop-i-init : goal.loop-i-init
loop-i-init c = let a = c.args in
    let p = c.requires in
    let z = length-take-le a.start.line a.line.now p.1.0 in
    (omega arith, p.1, refl, refl, refl, λ e. refl, takes_none _ _ _ p.0 (omega (arith, z, p.1.0)))

pub has_to_wait-requires : goal.has_to_wait-requires
has_to_wait-requires c = let l = c.loop-i in (l.invariant.1.1, l.invariant.1.2)

pub returns-then-has_to_wait : goal.returns-then-has_to_wait
returns-then-has_to_wait c = let l = c.loop-i in
    let n = c.has_to_wait.ensures.waits c.if-has_to_wait.true in
    record { reached = record { within = l.invariant.1; part = l.invariant.0; stops = λ h. n; moves = λ r h. moved l.i l.invariant.5 n r }; takes = l.invariant.6 }

pub take_byte-progress-requires : goal.take_byte-progress-requires
take_byte-progress-requires c = (c.loop-i.invariant.1, waits_as c.if-has_to_wait.false c.has_to_wait.ensures)

pub loop-i-preserved : goal.loop-i-preserved
loop-i-preserved c = let l = c.loop-i in
    let t = c.take_byte-progress.ensures in
    (omega arith, t.within, search rules, search rules, search rules, λ e. absurd (omega arith), takes_next _ _ _ c.requires.0 _ l.i (omega arith) l.invariant.6 (takes_sized _ _ l.invariant.2 t.takes))

pub returns : goal.returns
returns c = let l = c.loop-i in
    let a = c.args in
    let z : l.i ≡ length a.block.now = omega arith in
    record {
      reached = record { within = l.invariant.1; part = omega arith; stops = λ h. absurd (omega arith); moves = λ r h. h };
      takes = subst (λ (n : ℕ). Takes a.source a.file.now a.logged (length a.line.now) (stand_in a.line.now a.out.now a.records.now a.start) (take n a.block.now) (stand_in l.line l.out l.records l.progress)) z l.invariant.6;
    }
