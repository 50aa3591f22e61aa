use Rattle.std.proofs.Common.{sym, ◌∙◌, arith}
use Rattle.text.specs.Lists.{has}
use Rattle.text.proofs.Leads.{lead_on, lead_hit, lead_end, block_on}
use Rattle.text.proofs.slice.lead.Goals as goal

pub loop-block-preserved : goal.loop-block-preserved
unfolding has
loop-block-preserved c =
    let l = c.loop-block in
    let g = c.in-Some.ensures.steps in
    let b = block_on c.args.c c.args.s.now c.in-Some.block.now _ l.from l.invariant.1 (sym l.invariant.2 ∙ g.1.0) (sym c.is_among.ensures ∙ c.if-is_among.false) in
    let z = g.1.1 ∙ l.invariant.0 in
    (g.0 ∙ l.invariant.0, rw z at b.0, rw z at b.1, rw z at b.2 ∙ l.invariant.3)

pub returns-then-s-i : goal.returns-then-s-i
returns-then-s-i c = lead_hit _ _ _ c.loop-i-test.true c.if-s-i.true ∙ c.loop-i.invariant

pub loop-i-preserved : goal.loop-i-preserved
loop-i-preserved c = lead_on _ _ _ c.loop-i-test.true c.if-s-i.false ∙ c.loop-i.invariant

pub returns : goal.returns
returns c = let e = lead_end _ _ _ c.loop-i-test.false ∙ c.loop-i.invariant in omega arith
