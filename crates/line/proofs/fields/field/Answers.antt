use mathlib.Core.Path.{sym, ◌∙◌}
use native.Mathlib.Omega.{arith}
use Rattle.line.proofs.AccessLaws.{field_past, field_here, start_within}
use Rattle.line.proofs.fields.field.Goals as goal

pub returns-then-i-min : goal.returns-then-i-min
returns-then-i-min c = field_past _ _ _ _ (rw c.min.ensures at c.if-i-min.true)

pub returns : goal.returns
returns c = field_here _ _ _ _ _ _ (rw c.min.ensures at c.if-i-min.false) c.min-end.ensures (rw (c.start_of.ensures ∙ sym (start_within _ _ (omega arith))) at c.min-start.ensures)
