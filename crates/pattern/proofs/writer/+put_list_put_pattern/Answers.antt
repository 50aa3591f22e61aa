use Rattle.std.proofs.Common.{◌∙◌, arith}
use Rattle.text.proofs.Buffers.{wrote_as, wrote_done, wrote_length}
use Rattle.pattern.proofs.Expanding.{run_none, list_none, opening_numbers, left_some, list_holds, alternatives_none, parted, first_numbers, first_few, first_chosen, none_later}
use Rattle.pattern.proofs.Writing.{walks_on, puts_ends, puts_full, puts_list_full, puts_on, opens, flat_parted, flat_chosen, run_none_holds}
use Rattle.pattern.proofs.writer.+put_list_put_pattern.Goals as goal

pub put_list-returns-in_err-end : goal.put_list-returns-in_err-end
put_list-returns-in_err-end t c = absurd (run_none_holds _ _ _ _ _ c.in_err-end.ensures c.loop-end.invariant.1.holds)

pub put_list-returns-then-j-eq0 : goal.put_list-returns-then-j-eq0
put_list-returns-then-j-eq0 t c =
    let v = c.loop-end.invariant.1 in
    let w = rw c.in-Ends.is at c.in_ok-end.ensures in
    wrote_as (rw c.loop-end.invariant.0 at c.put_all.ensures) (v.same ∙ flat_chosen _ _ _ _ _ _ v.high w v.holds c.if-j-eq0.true)

pub put_list-returns-then-p-end : goal.put_list-returns-then-p-end
put_list-returns-then-p-end t c =
    let v = c.loop-end.invariant.1 in
    let w = rw c.in-Ends.is at c.in_ok-end.ensures in
    absurd (none_later _ _ _ _ _ _ _ (flat_parted _ _ _ _ _ _ v.high w v.holds) (omega arith) c.if-p-end.true)

pub put_list-loop-end-preserved-in-Ends : goal.put_list-loop-end-preserved-in-Ends
put_list-loop-end-preserved-in-Ends t c =
    let v = c.loop-end.invariant.1 in
    let w = rw c.in-Ends.is at c.in_ok-end.ensures in
    (c.loop-end.invariant.0, walks_on _ _ _ _ _ _ _ v _ _ (flat_parted _ _ _ _ _ _ v.high w v.holds) w.spans.low (omega arith) c.if-p-end.false)

pub put_list-returns-in_err-one-in-Opens : goal.put_list-returns-in_err-one-in-Opens
put_list-returns-in_err-one-in-Opens t c = absurd (alternatives_none _ _ _ _ _ c.in_err-one-in-Opens.ensures c.loop-end.invariant.1.holds)

pub put_list-put_pattern-requires : goal.put_list-put_pattern-requires
put_list-put_pattern-requires t c =
    let v = c.loop-end.invariant.1 in
    let r = c.in_ok-one-in-Opens.one in
    let o = parted _ _ _ _ r.next r.depth r.number _ c.in_ok-one-in-Opens.ensures v.holds in
    (omega (arith, v.low, v.high), (v.high, rw c.loop-end.invariant.0 c.requires.1, first_numbers _ _ _ _ _ _ _ o, first_few _ _ _ _ _ _ _ o, c.if-j-one.true))

pub put_list-returns-then-j-one : goal.put_list-returns-then-j-one
put_list-returns-then-j-one t c =
    let v = c.loop-end.invariant.1 in
    let r = c.in_ok-one-in-Opens.one in
    wrote_as (rw c.loop-end.invariant.0 at c.put_pattern.ensures) (v.same ∙ first_chosen _ _ _ _ _ _ _ (parted _ _ _ _ r.next r.depth r.number _ c.in_ok-one-in-Opens.ensures v.holds) c.if-j-one.true)

pub put_list-returns-then-p-one : goal.put_list-returns-then-p-one
put_list-returns-then-p-one t c =
    let r = c.in_ok-one-in-Opens.one in
    absurd (none_later _ _ _ _ _ _ _ (parted _ _ _ _ r.next r.depth r.number _ c.in_ok-one-in-Opens.ensures c.loop-end.invariant.1.holds) c.if-j-one.false c.if-p-one.true)

pub put_list-loop-end-preserved : goal.put_list-loop-end-preserved
put_list-loop-end-preserved t c =
    let v = c.loop-end.invariant.1 in
    let r = c.in_ok-one-in-Opens.one in
    (c.loop-end.invariant.0, walks_on _ _ _ _ _ _ _ v _ _ (parted _ _ _ _ r.next r.depth r.number _ c.in_ok-one-in-Opens.ensures v.holds) c.in_ok-one-in-Opens.ensures.within.low c.if-j-one.false c.if-p-one.false)

pub put_pattern-returns-in_err-brace : goal.put_pattern-returns-in_err-brace
put_pattern-returns-in_err-brace t c = absurd (run_none _ _ _ _ _ c.loop-brace.invariant.numbers c.in_err-brace.ensures)

pub put_pattern-returns-in_err-a-in-Opens : goal.put_pattern-returns-in_err-a-in-Opens
put_pattern-returns-in_err-a-in-Opens t c =
    rw c.from_residual-in_err-a-in-Opens.ensures
    (puts_full _ _ _ _ _ _ _ _ _ _ _ _ c.loop-brace.invariant _ (rw c.in-Opens.is at c.in_ok-brace.ensures) c.put_all.ensures c.in_err-a-in-Opens.was)

pub put_pattern-returns-in_err-inner-in-Opens : goal.put_pattern-returns-in_err-inner-in-Opens
put_pattern-returns-in_err-inner-in-Opens t c =
    absurd (list_none _ _ _ _ _ c.in_err-inner-in-Opens.ensures (opening_numbers _ _ _ _ _ c.loop-brace.invariant.numbers _ (rw c.in-Opens.is at c.in_ok-brace.ensures)))

pub put_pattern-nonzero_div-j : goal.put_pattern-nonzero_div-j
put_pattern-nonzero_div-j t c =
    let r = c.in_ok-inner-in-Opens.inner in
    let s = left_some _ _ _ _ _ _ _ _ (opens _ _ _ _ _ _ _ _ _ _ _ _ c.loop-brace.invariant _ (rw c.in-Opens.is at c.in_ok-brace.ensures) c.put_all.ensures r.next r.depth r.number c.in_ok-inner-in-Opens.ensures) in
    omega (arith, s)

pub put_pattern-put_list-requires : goal.put_pattern-put_list-requires
put_pattern-put_list-requires t c =
    let w = rw c.in-Opens.is at c.in_ok-brace.ensures in
    let v = c.put_all.ensures in
    let d = wrote_done v c.in_ok-a-in-Opens.was in
    let r = c.in_ok-inner-in-Opens.inner in (
      omega (arith, w.spans.0, w.spans.1.low, c.loop-brace.invariant.low),
      (omega (arith, w.spans.0), omega (arith, d.0, wrote_length v), list_holds _ _ _ _ _ _ _ _ (opens _ _ _ _ _ _ _ _ _ _ _ _ c.loop-brace.invariant _ w v r.next r.depth r.number c.in_ok-inner-in-Opens.ensures)),
    )

pub put_pattern-returns-in_err-n-in-Opens : goal.put_pattern-returns-in_err-n-in-Opens
put_pattern-returns-in_err-n-in-Opens t c =
    let r = c.in_ok-inner-in-Opens.inner in
    rw c.from_residual-in_err-n-in-Opens.ensures
    (puts_list_full _ _ _ _ _ _ _ _ _ _ _ _ c.loop-brace.invariant _ (rw c.in-Opens.is at c.in_ok-brace.ensures) c.put_all.ensures r.next r.depth r.number c.in_ok-inner-in-Opens.ensures _ c.in_ok-a-in-Opens.was c.put_list.ensures c.in_err-n-in-Opens.was)

pub put_pattern-nonzero_rem-j : goal.put_pattern-nonzero_rem-j
put_pattern-nonzero_rem-j t c =
    let r = c.in_ok-inner-in-Opens.inner in
    let s = left_some _ _ _ _ _ _ _ _ (opens _ _ _ _ _ _ _ _ _ _ _ _ c.loop-brace.invariant _ (rw c.in-Opens.is at c.in_ok-brace.ensures) c.put_all.ensures r.next r.depth r.number c.in_ok-inner-in-Opens.ensures) in
    omega (arith, s)

pub put_pattern-loop-brace-preserved : goal.put_pattern-loop-brace-preserved
put_pattern-loop-brace-preserved t c =
    let r = c.in_ok-inner-in-Opens.inner in
    puts_on _ _ _ _ _ _ _ _ _ _ _ _ c.loop-brace.invariant _ (rw c.in-Opens.is at c.in_ok-brace.ensures) c.put_all.ensures r.next r.depth r.number c.in_ok-inner-in-Opens.ensures _ c.in_ok-a-in-Opens.was c.put_list.ensures _ c.in_ok-n-in-Opens.was

pub put_pattern-returns-in-Ends : goal.put_pattern-returns-in-Ends
put_pattern-returns-in-Ends t c = puts_ends _ _ _ _ _ _ _ _ _ _ _ _ c.loop-brace.invariant _ (rw c.in-Ends.is at c.in_ok-brace.ensures) c.put_all-in-Ends.ensures
