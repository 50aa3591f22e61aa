use Rattle.std.proofs.Common.{ℕ, ◌-◌, ◌<◌, arith, rules}
use native.Mathlib.Nat.{mul-le-mul}
use lib.ListN.{get_or, length-replicate}
use Rattle.pattern.proofs.Readings.{larger_is}
use Rattle.pattern.proofs.Depths.{climbs_start, climbs_faulty, climbs_opens, climbs_fault, climbs_list, climbs_open, climbs_more, climbs_ends, climbs_closes}
use Rattle.pattern.proofs.levels.+levels.Goals as goal

pub loop-brace-init : goal.loop-brace-init
loop-brace-init t c = climbs_start _ _ _ _ _ c.requires (length-replicate {A = ℕ} 64 0) (length-replicate {A = ℕ} 64 0)

pub returns-in_err-brace : goal.returns-in_err-brace
returns-in_err-brace t c = rw c.from_residual.ensures (climbs_faulty _ _ _ _ _ _ _ _ _ _ c.loop-brace.invariant c.in_err-brace.ensures)

pub loop-brace-preserved-then-outer-lt-LEVELS : goal.loop-brace-preserved-then-outer-lt-LEVELS
loop-brace-preserved-then-outer-lt-LEVELS t c = climbs_opens _ _ _ _ _ _ _ _ _ _ c.loop-brace.invariant _ c.if-outer-lt-LEVELS.true (rw c.in-Opens.is at c.in_ok-brace.ensures)

pub returns-in_err-inner-in-Opens : goal.returns-in_err-inner-in-Opens
returns-in_err-inner-in-Opens t c = rw c.from_residual-in_err-inner-in-Opens.ensures (climbs_fault _ _ _ _ _ _ _ _ _ _ c.loop-brace.invariant _ (rw c.in-Opens.is at c.in_ok-brace.ensures) c.in_err-inner-in-Opens.ensures)

pub loop-brace-preserved-else-outer-lt-LEVELS : goal.loop-brace-preserved-else-outer-lt-LEVELS
loop-brace-preserved-else-outer-lt-LEVELS t c =
    let i = c.in_ok-inner-in-Opens.inner in
    rw (c.min-product.ensures, c.max-deepest.ensures, larger_is) (climbs_list _ _ _ _ _ _ _ _ _ _ c.loop-brace.invariant _ (rw c.in-Opens.is at c.in_ok-brace.ensures) i.next i.depth i.number c.in_ok-inner-in-Opens.ensures)

pub returns-then-p-end : goal.returns-then-p-end
returns-then-p-end t c = climbs_open _ _ _ _ _ _ _ _ _ _ c.loop-brace.invariant _ (rw c.in-Ends.is at c.in_ok-brace.ensures) c.if-p-end.true

pub loop-brace-preserved-then-p-end-ne125 : goal.loop-brace-preserved-then-p-end-ne125
loop-brace-preserved-then-p-end-ne125 t c = rw c.min-total.ensures (climbs_more _ _ _ _ _ _ _ _ _ _ c.loop-brace.invariant _ (rw c.in-Ends.is at c.in_ok-brace.ensures) c.if-p-end.false c.if-p-end-ne125.true)

pub returns-then-outer-eq0 : goal.returns-then-outer-eq0
returns-then-outer-eq0 t c = rw (c.min-total.ensures, c.max-deepest-in-Ends.ensures) (climbs_ends _ _ _ _ _ _ _ _ _ _ c.loop-brace.invariant _ (rw c.in-Ends.is at c.in_ok-brace.ensures) c.if-p-end.false c.if-p-end-ne125.false c.if-outer-eq0.true)

pub overflow_mul-from : goal.overflow_mul-from
overflow_mul-from t c =
    let h : c.min-total.result < 66 = omega (arith, c.min-total.ensures) in
    let k : get_or c.loop-brace.products (c.loop-brace.outer - 1) 0 < 256 = search rules in
    rw c.from.ensures (omega (arith, mul-le-mul k h))

pub loop-brace-preserved : goal.loop-brace-preserved
loop-brace-preserved t c =
    let h : get_or c.loop-brace.sums (c.loop-brace.outer - 1) 0 < 256 = search rules in
    rw (c.min-product-in-Ends.ensures, c.from.ensures, c.from-sum.ensures, c.min-total.ensures, c.max-deepest-in-Ends.ensures)
    (climbs_closes _ _ _ _ _ _ _ _ _ _ c.loop-brace.invariant _ (rw c.in-Ends.is at c.in_ok-brace.ensures) c.if-p-end.false c.if-p-end-ne125.false c.if-outer-eq0.false h)
