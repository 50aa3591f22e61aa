use mathlib.Core.Path.{sym, ◌∙◌}
use Rattle.variables.proofs.FieldLaws.{lays, lays_none, lays_kept, lays_removed}
use Rattle.variables.proofs.field.put_byte.Goals as goal

pub returns-then-is_kept : goal.returns-then-is_kept
returns-then-is_kept c = lays_kept c.args.quoting _ (sym c.is_kept.ensures ∙ c.if-is_kept.true) (lays _ c.requires.0 c.put.ensures c.count_of.ensures)

pub returns-else-is_kept : goal.returns-else-is_kept
returns-else-is_kept c = lays_removed c.args.quoting c.args.b (sym c.is_kept.ensures ∙ c.if-is_kept.false) (lays_none _ _ c.requires.1)
