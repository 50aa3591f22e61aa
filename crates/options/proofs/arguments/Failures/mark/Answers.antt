use mathlib.Core.Path.{sym, ap, ◌∙◌}
use native.Mathlib.Omega.{arith}
use lib.ListN.{length-set}
use Rattle.options.specs.Contract.{span_in, pattern_at}
use Rattle.options.proofs.ArgumentLaws.{marked_from, marked_none, marked_full, marked_on}
use Rattle.options.proofs.arguments.Failures.mark.Goals as goal

pub loop-i-preserved : goal.loop-i-preserved
loop-i-preserved c =
    let l = c.loop-i in
    let p = pattern_at (span_in c.args.span) c.args.pattern.now in
    (length-set _ _ _ ∙ l.invariant.0, marked_on p l.at l.i _ _ (omega arith) c.fails.ensures ∙ ap (marked_from p l.at l.i) (sym c.in-Some.ensures.steps) ∙ l.invariant.1)

pub returns-after-loop-i : goal.returns-after-loop-i
returns-after-loop-i c = let l = c.loop-i in sym (marked_full _ l.at l.i _ (omega arith)) ∙ l.invariant.1

pub returns-in_default : goal.returns-in_default
returns-in_default c =
    let l = c.loop-i in
    let p = pattern_at (span_in c.args.span) c.args.pattern.now in
    sym (marked_none p l.at l.i) ∙ ap (marked_from p l.at l.i) (sym c.in_default.ensures.steps.0) ∙ l.invariant.1
