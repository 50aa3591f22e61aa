use native.Mathlib.Omega.{arith}
use Rattle.pattern.proofs.Runs.{run_end, run_opens, run_stops, run_stray, run_faulty, run_piece, run_plain}
use Rattle.pattern.proofs.run.run_at.Goals as goal

pub loop-i-preserved-then-is_ordinary : goal.loop-i-preserved-then-is_ordinary
loop-i-preserved-then-is_ordinary c = (omega arith, λ r v. c.loop-i.invariant.1 r (run_plain _ _ _ _ c.loop-i-test.true r (c.is_ordinary.ensures c.if-is_ordinary.true) v))

pub returns-in-Opens : goal.returns-in-Opens
returns-in-Opens c = c.loop-i.invariant.1 _ (run_opens _ _ _ _ c.loop-i-test.true c.in-Opens.ensures)

pub returns-in-Stops : goal.returns-in-Stops
returns-in-Stops c = c.loop-i.invariant.1 _ (run_stops _ _ _ _ c.loop-i-test.true c.in-Stops.ensures)

pub returns-in-Stray : goal.returns-in-Stray
returns-in-Stray c = c.loop-i.invariant.1 _ (run_stray _ _ _ _ c.loop-i-test.true c.in-Stray.ensures)

pub returns-in_err-i-in-Begins : goal.returns-in_err-i-in-Begins
returns-in_err-i-in-Begins c = rw c.from_residual.ensures (c.loop-i.invariant.1 _ (run_faulty _ _ _ _ c.loop-i-test.true c.in-Begins.ensures c.in_err-i-in-Begins.ensures))

pub loop-i-preserved : goal.loop-i-preserved
loop-i-preserved c =
    let w = c.in_ok-i-in-Begins.ensures in
    (omega (arith, w.ahead), λ r v. c.loop-i.invariant.1 r (run_piece _ _ _ _ c.loop-i-test.true c.in-Begins.ensures _ r w v))

pub returns : goal.returns
returns c = c.loop-i.invariant.1 _ (run_end _ _ _ _ c.loop-i-test.false c.loop-i.invariant.0)
