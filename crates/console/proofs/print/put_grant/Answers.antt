use native.Mathlib.Omega.{arith}
use Rattle.text.specs.Contract.{Wrote}
use Rattle.text.proofs.Buffers.{wrote_as, wrote_length}
use Rattle.answer.specs.Answer.{grant_in}
use Rattle.console.specs.Printed.{grant_text}
use Rattle.console.proofs.PrintLaws.{grant_text_law}
use Rattle.console.proofs.print.put_grant.Goals as goal
use Rattle.console.proofs.print.put_grant.Goals.{After-slice_known-10-1}

-- the whole line was put
whole : (c : After-slice_known-10-1) → Wrote c.args.out.now c.then_all.new.out 0 (grant_text c.args.word.now (grant_in c.args.buffer.now c.args.grant)) c.then_all.result
whole c =
    let a = c.args in
    let p = c.then_all-path.ensures.behind _ _ _ (c.then_all-space.ensures.behind _ _ _ (c.then_decimal-line.ensures.behind _ _ _ c.put_all.ensures)) in
    let g = c.then_id-gid.ensures.behind _ _ _ (c.then_id-euid.ensures.behind _ _ _ (c.then_id-uid.ensures.behind _ _ _ p)) in
    wrote_as (c.then_all.ensures.behind _ _ _ (c.then_id-egid.ensures.behind _ _ _ g)) (grant_text_law _ a.buffer.now a.grant _ _ _ _ _ c.string_in.ensures c.string_in-2.ensures c.string_in-3.ensures c.string_in-4.ensures c.string_in-5.ensures)

pub shape_of-out : goal.shape_of-out
shape_of-out c = omega (arith, wrote_length (whole (goal.at.shape_of-out c).After-slice_known-10-1))

pub returns : goal.returns
returns c = whole (goal.at.returns c).After-slice_known-10-1
