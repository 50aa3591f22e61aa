use Rattle.std.specs.Prelude.{None, Some}
use mathlib.Core.Path.{refl, ◌∙◌}
use native.Mathlib.Omega.{arith}
use borrow.Author.Tests.{eq-eqb, ne_eqb}
use Rattle.text.specs.Contract.{Wrote}
use Rattle.text.proofs.Buffers.{wrote_length, wrote_done, wrote_then, wrote_full, wrote_as, wrote_none}
use Rattle.entry.proofs.PathLaws.{piece, starred_next, starred_end}
use Rattle.entry.proofs.path.put_path.Goals as goal
use Rattle.entry.proofs.path.put_path.Goals.{then-b-eq-STAR+in_ok-m, else-b-eq-STAR+in_ok-m-2}

pub loop-b-init : goal.loop-b-init
loop-b-init c = (omega arith, λ new q v. v)

pub returns-in_err-m : goal.returns-in_err-m
returns-in_err-m c =
    let l = c.loop-b in
    let p : Wrote l.out c.put_all.new.out l.m (piece c.args.command.now c.args.path.now l.b-index) None = rw (eq-eqb _ _ c.if-b-eq-STAR.true) c.in_err-m.ensures in
    rw c.from_residual.ensures (l.invariant.1 _ _ (wrote_as (wrote_full p refl _) (starred_next _ _ _ c.loop-b-test.true)))

pub returns-in_err-m-2 : goal.returns-in_err-m-2
returns-in_err-m-2 c =
    let l = c.loop-b in
    let p : Wrote l.out c.put.new.out l.m (piece c.args.command.now c.args.path.now l.b-index) None = rw (ne_eqb _ _ c.if-b-eq-STAR.false) c.in_err-m-2.ensures in
    rw c.from_residual-in_err-m-2.ensures (l.invariant.1 _ _ (wrote_as (wrote_full p refl _) (starred_next _ _ _ c.loop-b-test.true)))

pub loop-b-preserved : goal.loop-b-preserved
loop-b-preserved c =
    let l = c.loop-b in
    -- where the two arms meet: the byte's piece was written
    let p : Wrote l.out c.if-b-eq-STAR.out l.m (piece c.args.command.now c.args.path.now l.b-index) (Some c.if-b-eq-STAR.m) = elim c.if-b-eq-STAR.branch [ then-b-eq-STAR+in_ok-m w ↦ rw (w.out-is, w.m-is, eq-eqb _ _ w.if-b-eq-STAR.true) w.in_ok-m.ensures | else-b-eq-STAR+in_ok-m-2 w ↦ rw (w.out-is, w.m-is, ne_eqb _ _ w.if-b-eq-STAR.false) w.in_ok-m-2.ensures ] in
    let d = wrote_done p refl in
    (omega (arith, d.0, l.auto.out), λ new q v. l.invariant.1 new q (wrote_as (wrote_then p refl v) (starred_next _ _ _ c.loop-b-test.true)))

pub returns : goal.returns
returns c = let l = c.loop-b in l.invariant.1 _ _ (wrote_as (wrote_none _ _ (omega arith)) (starred_end _ _ _ c.loop-b-test.false))
