use mathlib.Core.Path.{sym, ◌∙◌}
use Rattle.std.proofs.lemmas.Result.{err_from_is_err_and}
use Rattle.matching.proofs.FieldLaws.{told_fault, told_flat, told_good}
use Rattle.condition.proofs.ReadLaws.{pattern_fault, pattern_read}
use Rattle.condition.proofs.condition.add_alternatives.Goals as goal

pub returns-in_err-read_pattern_field : goal.returns-in_err-read_pattern_field
returns-in_err-read_pattern_field c =
    let p = err_from_is_err_and c.from_residual.result c.from_residual.ensures.1 in
    rw (p.1, p.2) (pattern_fault _ _ _ _ _ _ c.kind_for-syntax.ensures (told_fault _ _ _ c.in_err-read_pattern_field.ensures))

pub returns-in-Flat : goal.returns-in-Flat
returns-in-Flat c = c.add_one.ensures ∙ pattern_read _ _ _ _ _ _ c.kind_for-syntax.ensures (told_flat _ _ (rw c.in-Flat.is at c.in_ok-read_pattern_field.ensures))

pub add_all-requires : goal.add_all-requires
add_all-requires c = record { short = c.requires; good = told_good _ _ _ c.in_ok-read_pattern_field.ensures }

pub returns-in-Number : goal.returns-in-Number
returns-in-Number c = c.add_all.ensures ∙ pattern_read _ _ _ _ _ _ c.kind_for-syntax.ensures (told_good _ _ _ c.in_ok-read_pattern_field.ensures)
