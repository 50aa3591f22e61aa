use mathlib.Core.Path.{◌≡◌}
use lib.ListN.{length}
use Rattle.question.specs.Contract.{strings_in}
use Rattle.options.specs.Contract.{span_in, pattern_at, failures_with}
use Rattle.options.proofs.ArgumentLaws.{marked_from}
use Rattle.options.proofs.arguments.Failures.mark.Given as goal

abbrev pub invariant-loop-i : goal.invariant-loop-i
invariant-loop-i l = (length l.at ≡ 64) × (marked_from (pattern_at (span_in l.fn.span) l.pattern) l.at l.i (strings_in l.arguments.0.now) ≡ failures_with 1 (pattern_at (span_in l.fn.span) l.pattern) (strings_in l.args) l.fn.self.at)
