use mathlib.Core.Path.{◌≡◌, ◌∙◌}
use mathlib.Core.Bool.{cond}
use borrow.Author.Tests.{eq-eqb, ne_eqb}
use lib.Dec.{eqb}
use lib.ListN.{get_or}
use Rattle.text.proofs.Buffers.{wrote_length, wrote_then, wrote_full, wrote_as}
use Rattle.console.proofs.PartLaws.{parts_next, parts_end}
use Rattle.console.proofs.question_line.put_parts.Goals as goal
use Rattle.console.proofs.question_line.put_parts.Goals.{then-b-c, else-b-c}

pub returns-in_err-m : goal.returns-in_err-m
returns-in_err-m c = let l = c.loop-b in
    let b = get_or c.args.s.now l.b-index 0 in
    let e : c.if-b-c.byte ≡ cond (eqb b c.args.c) 0 b = elim c.if-b-c.branch [ then-b-c w ↦ rw (eq-eqb _ _ w.if-b-c.true) w.byte-is | else-b-c w ↦ rw (ne_eqb _ _ w.if-b-c.false) w.byte-is ] in
    l.invariant.1 _ _ (wrote_as (rw c.from_residual.ensures (wrote_full (rw e at c.put.ensures) c.in_err-m.was _)) (parts_next _ _ _ c.loop-b-test.true))

pub loop-b-preserved : goal.loop-b-preserved
loop-b-preserved c = let l = c.loop-b in
    let b = get_or c.args.s.now l.b-index 0 in
    let e : c.if-b-c.byte ≡ cond (eqb b c.args.c) 0 b = elim c.if-b-c.branch [ then-b-c w ↦ rw (eq-eqb _ _ w.if-b-c.true) w.byte-is | else-b-c w ↦ rw (ne_eqb _ _ w.if-b-c.false) w.byte-is ] in
    (wrote_length c.put.ensures ∙ l.invariant.0, λ new q v. l.invariant.1 new q (wrote_as (wrote_then (rw e at c.put.ensures) c.in_ok-m.was v) (parts_next _ _ _ c.loop-b-test.true)))

pub returns : goal.returns
returns c = let l = c.loop-b in l.invariant.1 _ _ (wrote_as c.put-2.ensures (parts_end _ _ _ c.loop-b-test.false))
