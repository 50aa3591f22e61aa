use Rattle.line.proofs.ProgressLaws.{closed_joined, parted}
use Rattle.line.specs.Contract.{Progress}
use native.Mathlib.Omega.{arith}
use mathlib.Core.List.{[]}
use mathlib.Core.Path.{ap, ◌∙◌}
use Rattle.line.proofs.counts.Counts.part.Goals as goal

pub overflow_add-result : goal.overflow_add-result
overflow_add-result c = omega (arith, ap (λ (q : Progress). q.joined) (c.close-closed.ensures []) ∙ closed_joined _, c.requires.0.most)

pub returns : goal.returns
returns c = λ text. parted _ _ c.requires.1 (c.close-closed.ensures text)
