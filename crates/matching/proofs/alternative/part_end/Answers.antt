use mathlib.Core.Path.{◌≡◌, sym, ◌∙◌}
use lib.ListN.{length}
use native.Mathlib.Omega.{arith}
use Rattle.matching.proofs.AlternativeLaws.{parts_here, parts_end, parts_next}
use Rattle.matching.proofs.alternative.part_end.Goals as goal

pub returns-then-parts_at : goal.returns-then-parts_at
returns-then-parts_at c = c.loop-i.invariant _ (parts_here _ _ _ c.loop-i-test.true (sym c.parts_at.ensures ∙ c.if-parts_at.true))

pub loop-i-preserved : goal.loop-i-preserved
loop-i-preserved c = λ r w. c.loop-i.invariant r (parts_next _ _ _ r c.loop-i-test.true (sym c.parts_at.ensures ∙ c.if-parts_at.false) (rw (← c.context_after-context.ensures) w))

pub returns : goal.returns
returns c =
    let e : c.loop-i.i ≡ length c.args.a.now = omega arith in
    rw (← e) (c.loop-i.invariant _ (parts_end _ _ _ c.loop-i-test.false (omega arith)))
