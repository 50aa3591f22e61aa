use Rattle.std.proofs.Common.{◌∙◌, arith}
use Rattle.glob.proofs.SearchLaws.{sought_whole, sought_star, sought_end, sought_next, covers_star, covers_next}
use Rattle.glob.proofs.matcher.search.Goals as goal

pub returns-in-Some-Whole : goal.returns-in-Some-Whole
returns-in-Some-Whole c = sought_whole c.loop-next.star _ _ (rw (c.in-Some-Whole.field-0-is, c.unwrap_or.ensures) at c.in-Some-Whole.ensures) ∙ c.loop-next.invariant.3

pub returns-then-next-p : goal.returns-then-next-p
returns-then-next-p c =
    let w = rw (c.in-Some-Star.field-0-is, c.unwrap_or.ensures) at c.in-Some-Star.ensures in
    sought_end w c.loop-next.star c.if-next-p.true ∙ c.loop-next.invariant.3

pub loop-next-preserved-in-Star-1 : goal.loop-next-preserved-in-Star-1
loop-next-preserved-in-Star-1 c =
    let w = rw (c.in-Some-Star.field-0-is, c.unwrap_or.ensures) at c.in-Some-Star.ensures in
    let v = c.loop-next.invariant in
    (w.high, w.most, covers_star w v.2, sought_star w c.loop-next.star ∙ v.3)

pub loop-next-preserved : goal.loop-next-preserved
loop-next-preserved c =
    let w = rw (c.in-Some-Off.field-0-is, c.unwrap_or.ensures) at c.in-Some-Off.ensures in
    let v = c.loop-next.invariant in
    (v.0, omega (arith, w.more), covers_next w v.2, sought_next w c.loop-next.star c.if-is_none.ensures ∙ v.3)
