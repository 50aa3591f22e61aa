use mathlib.Core.Path.{refl, sym, ◌∙◌}
use native.Mathlib.Omega.{arith}
use Rattle.matching.proofs.MatchLaws.{some_on, some_hit, some_end_law}
use Rattle.matching.proofs.matcher.matches_some.Goals as goal

pub loop-k-init : goal.loop-k-init
loop-k-init c = refl

pub matches_nth-requires : goal.matches_nth-requires
matches_nth-requires c = record { expands = c.requires; below = omega (arith, c.loop-k-test.true) }

pub returns-then-matches_nth : goal.returns-then-matches_nth
returns-then-matches_nth c = some_hit _ _ _ _ (omega (arith, c.requires.count)) (sym c.matches_nth.ensures ∙ c.if-matches_nth.true) ∙ c.loop-k.invariant

pub loop-k-preserved : goal.loop-k-preserved
loop-k-preserved c = some_on _ _ _ _ (omega (arith, c.requires.count)) (sym c.matches_nth.ensures ∙ c.if-matches_nth.false) ∙ c.loop-k.invariant

pub returns : goal.returns
returns c = let a = c.args in some_end_law a.syntax a.p.now a.name.now c.loop-k.k (omega (arith, c.requires.count)) ∙ c.loop-k.invariant
