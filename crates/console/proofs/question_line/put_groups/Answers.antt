use mathlib.Core.Path.{sym, ◌∙◌}
use native.Mathlib.Omega.{arith}
use Rattle.text.proofs.Buffers.{wrote_as, wrote_none}
use Rattle.console.proofs.PartLaws.{groups_none, groups_some}
use Rattle.console.proofs.question_line.put_groups.Goals as goal

pub returns-then-eq : goal.returns-then-eq
returns-then-eq c = wrote_as (wrote_none _ _ (omega arith)) (groups_none _ (rw c.as_slice.ensures at (sym c.eq.ensures ∙ c.if-eq.true)))

pub returns : goal.returns
returns c = wrote_as c.put_parts.ensures (groups_some _ (rw c.as_slice.ensures at (sym c.eq.ensures ∙ c.if-eq.false)))
