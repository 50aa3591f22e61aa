use mathlib.Core.Path.{sym, ◌∙◌}
use Rattle.matching.proofs.FieldLaws.{told_fault, told_flat, told_count}
use Rattle.matching.proofs.MatchLaws.{matches_alone, long_matches, fault_matches, field_matches, matches_are}
use Rattle.matching.proofs.matcher.matches_pattern.Goals as goal

pub returns-then-p-gt-BYTES : goal.returns-then-p-gt-BYTES
returns-then-p-gt-BYTES c = long_matches _ _ _ c.if-p-gt-BYTES.true

pub matches_some-requires : goal.matches_some-requires
matches_some-requires c = record { count = told_count _ _ _ (rw c.in-Ok-Number.field-0-is at c.in-Ok-Number.ensures); short = c.if-p-gt-BYTES.false }

pub returns-in-Err : goal.returns-in-Err
returns-in-Err c = fault_matches _ _ _ c.if-p-gt-BYTES.false (told_fault _ _ _ c.in-Err.ensures)

pub returns-in-Ok-Flat : goal.returns-in-Ok-Flat
returns-in-Ok-Flat c = c.matches_one.ensures ∙ matches_alone _ _ ∙ sym (matches_are _ _ _ c.if-p-gt-BYTES.false (told_flat _ _ (rw c.in-Ok-Flat.field-0-is at c.in-Ok-Flat.ensures)))

pub returns-in-Ok-Number : goal.returns-in-Ok-Number
returns-in-Ok-Number c = c.matches_some.ensures ∙ field_matches _ _ _ c.if-p-gt-BYTES.false
