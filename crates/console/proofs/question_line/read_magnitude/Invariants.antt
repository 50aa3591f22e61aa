use mathlib.Core.Path.{◌≡◌}
use Prim.Native.Nat.{◌≤◌}
use lib.ListN.{drop}
use Rattle.text.specs.Number.{digits}
use Rattle.console.specs.QuestionLine.{number_in}
use Rattle.console.specs.Contract.{capped_at, magnitude_limit}
use Rattle.console.proofs.question_line.read_magnitude.Given as goal

abbrev pub invariant-loop-b : goal.invariant-loop-b
invariant-loop-b l = (l.v ≤ magnitude_limit) × (capped_at magnitude_limit (digits l.v (drop l.b-index l.s)) ≡ capped_at magnitude_limit (number_in l.s))
