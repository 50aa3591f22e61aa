-- What the control lines of a table give, from the first to the last.
use Rattle.std.specs.Prelude.{ℕ, List, Option, Result}
use Rattle.fault.specs.declared.Cause.{Cause}
use Rattle.question.specs.Question.{Question}
use Rattle.line.specs.Line.{backslash}
use Rattle.line.specs.Fold.{Refusal, outcome}
use Rattle.reader.specs.State.{Decision, start}
use Rattle.reader.specs.Read.{line_read}

-- the fold of `line_read` over the lines, from the start: the first fault, a line that is cut, or the decision
abbrev pub lines_give : Question → List ℕ → Result (Option Decision) (Refusal Cause)
lines_give q t = outcome backslash (line_read q) (λ s. s.decision) start t
