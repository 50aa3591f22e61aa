use Rattle.pattern.proofs.Readings.{larger_is, mixes_start, mixes_ends, mixes_faulty, mixes_fault, mixes_list, list_fault, list_open, list_ends, list_closes, sums_start, sums_faulty, sums_done, sums_more}
use Rattle.pattern.proofs.braces.+list_pattern.Goals as goal

pub list-loop-one-init : goal.list-loop-one-init
list-loop-one-init t c = sums_start _ _ _ _ c.requires

pub list-returns-in_err-one : goal.list-returns-in_err-one
list-returns-in_err-one t c = rw c.from_residual.ensures (sums_faulty _ _ _ _ _ _ _ c.loop-one.invariant (list_fault _ _ _ _ c.in_err-one.ensures))

pub list-returns-then-inside-2 : goal.list-returns-then-inside-2
list-returns-then-inside-2 t c = sums_faulty _ _ _ _ _ _ _ c.loop-one.invariant (list_open _ _ _ _ _ _ _ c.in_ok-one.ensures c.if-inside-2.true c.if-p-next.true)

pub list-returns-then-p-next : goal.list-returns-then-p-next
list-returns-then-p-next t c =
    rw (c.min-number.ensures, c.max-depth.ensures, larger_is)
    (sums_done _ _ _ _ _ _ _ c.loop-one.invariant _ _ _ (list_ends _ _ _ _ c.in_ok-one.one.next c.in_ok-one.one.depth c.in_ok-one.one.number c.in_ok-one.ensures c.if-inside-2.false c.if-p-next.true))

pub list-returns-then-p-next-eq125 : goal.list-returns-then-p-next-eq125
list-returns-then-p-next-eq125 t c =
    rw (c.min-number.ensures, c.max-depth.ensures, larger_is)
    (sums_done _ _ _ _ _ _ _ c.loop-one.invariant _ _ _ (list_closes _ _ _ _ c.in_ok-one.one.next c.in_ok-one.one.depth c.in_ok-one.one.number c.in_ok-one.ensures c.if-p-next.false c.if-p-next-eq125.true))

pub list-loop-one-preserved : goal.list-loop-one-preserved
list-loop-one-preserved t c =
    rw (c.min-number.ensures, c.max-depth.ensures, larger_is)
    (sums_more _ _ _ _ _ _ _ c.loop-one.invariant c.in_ok-one.one.next c.in_ok-one.one.depth c.in_ok-one.one.number c.in_ok-one.ensures c.if-p-next.false c.if-p-next-eq125.false)

pub pattern-loop-brace-init : goal.pattern-loop-brace-init
pattern-loop-brace-init t c = mixes_start _ _ _ _ c.requires

pub pattern-returns-in_err-brace : goal.pattern-returns-in_err-brace
pattern-returns-in_err-brace t c = rw c.from_residual.ensures (mixes_faulty _ _ _ _ _ _ _ c.loop-brace.invariant c.in_err-brace.ensures)

pub pattern-returns-in_err-inner-in-Opens : goal.pattern-returns-in_err-inner-in-Opens
pattern-returns-in_err-inner-in-Opens t c = rw c.from_residual-in_err-inner-in-Opens.ensures (mixes_fault _ _ _ _ _ _ _ c.loop-brace.invariant _ (rw c.in-Opens.is at c.in_ok-brace.ensures) c.in_err-inner-in-Opens.ensures)

pub pattern-loop-brace-preserved : goal.pattern-loop-brace-preserved
pattern-loop-brace-preserved t c =
    rw (c.min-number.ensures, c.max-depth.ensures, larger_is)
    (mixes_list _ _ _ _ _ _ _ c.loop-brace.invariant _ (rw c.in-Opens.is at c.in_ok-brace.ensures) c.in_ok-inner-in-Opens.inner.next c.in_ok-inner-in-Opens.inner.depth c.in_ok-inner-in-Opens.inner.number c.in_ok-inner-in-Opens.ensures)

pub pattern-returns-in-Ends : goal.pattern-returns-in-Ends
pattern-returns-in-Ends t c = mixes_ends _ _ _ _ _ _ _ c.loop-brace.invariant _ (rw c.in-Ends.is at c.in_ok-brace.ensures)
