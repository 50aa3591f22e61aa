use Rattle.glob.proofs.SearchLaws.{try_whole, try_rest, try_star, try_short, try_off, try_on}
use Rattle.glob.proofs.matcher.try_at.Goals as goal

pub returns-then-p-at-eq42 : goal.returns-then-p-at-eq42
returns-then-p-at-eq42 c = try_star c.loop-at.invariant c.loop-at-test.true c.if-p-at-eq42.true

pub returns-then-name-to : goal.returns-then-name-to
returns-then-name-to c = try_short c.loop-at.invariant c.loop-at-test.true c.if-p-at-eq42.false c.if-name-to.true

pub returns-in_default : goal.returns-in_default
returns-in_default c = try_off c.loop-at.invariant c.loop-at-test.true _ c.if-name-to.false c.in_ok-left.ensures c.in_default.ensures

pub loop-at-preserved : goal.loop-at-preserved
loop-at-preserved c = try_on c.loop-at.invariant c.loop-at-test.true _ _ c.if-name-to.false c.in_ok-left.ensures c.in-Some.ensures

pub returns-then-name-to-2 : goal.returns-then-name-to-2
returns-then-name-to-2 c = try_whole c.loop-at.invariant c.loop-at-test.false c.if-name-to-2.true

pub returns : goal.returns
returns c = try_rest c.loop-at.invariant c.loop-at-test.false c.if-name-to-2.false
