use Rattle.std.proofs.Common.{length, ap, arith, rules}
use Rattle.text.proofs.Laws.{part_rest}
use Rattle.glob.proofs.SetLaws.{range_whole, range_one, no_range}
use Rattle.glob.proofs.set.RangesIterator.next.Goals as goal
use Rattle.glob.proofs.set.RangesIterator.next.Goals.{else-s-gt2-via-then-s-gt2+else-s-eq45, else-s-gt2-via-else-s-gt2}

pub returns-in_err-low-clause-steps : goal.returns-in_err-low-clause-steps
returns-in_err-low-clause-steps c = let n = no_range _ c.in_err-low.ensures.value in rw c.from_residual.ensures (n, n)

pub returns-then-s-eq45-clause-steps : goal.returns-then-s-eq45-clause-steps
returns-then-s-eq45-clause-steps c = range_whole _ c.in_ok-low.ensures.value c.if-s-gt2.true c.if-s-eq45.true (part_rest 3 _)

pub returns-then-s-eq45-clause-goes : goal.returns-then-s-eq45-clause-goes
returns-then-s-eq45-clause-goes c = record { on = λ _. (tt, tt, omega (arith, ap length (returns-then-s-eq45-clause-steps c))); keeps = search rules; rests = search rules }

pub returns-clause-steps : goal.returns-clause-steps
returns-clause-steps c = range_one _ c.in_ok-low.ensures.value (λ h e. elim c.else-s-gt2.branch [ else-s-gt2-via-then-s-gt2+else-s-eq45 w ↦ w.if-s-eq45.false e | else-s-gt2-via-else-s-gt2 w ↦ omega arith ]) (part_rest 1 _)

pub returns-clause-goes : goal.returns-clause-goes
returns-clause-goes c = record { on = λ _. (tt, tt, omega (arith, ap length (returns-clause-steps c))); keeps = search rules; rests = search rules }
