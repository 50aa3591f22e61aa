use mathlib.Core.Path.{◌∙◌}
use Rattle.variables.proofs.StoreLaws.{told, place_start, place_here, place_on, place_end}
use Rattle.variables.specs.Contract.{definition_at}
use Rattle.variables.proofs.place.Goals as goal

pub loop-i-init : goal.loop-i-init
loop-i-init c = place_start _ _ _ _ _ c.min-i-end.ensures

pub returns-then-eq : goal.returns-then-eq
returns-then-eq c = place_here (definition_at c.args.bytes.now c.args.sizes.now) _ _ _ c.loop-i-test.true (told _ c.eq.ensures c.name_at.ensures c.if-eq.true) ∙ c.loop-i.invariant

pub loop-i-preserved : goal.loop-i-preserved
loop-i-preserved c = place_on (definition_at c.args.bytes.now c.args.sizes.now) _ _ _ c.loop-i-test.true (told _ c.eq.ensures c.name_at.ensures c.if-eq.false) ∙ c.loop-i.invariant

pub returns : goal.returns
returns c = place_end (definition_at c.args.bytes.now c.args.sizes.now) _ _ _ c.loop-i-test.false ∙ c.loop-i.invariant
