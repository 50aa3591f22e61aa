use Rattle.std.proofs.lemmas.Result.{err_from_is_err_and}
use Rattle.options.proofs.ReadLaws.{argument_fault}
use Rattle.options.proofs.read.read_argument.Goals as goal

pub returns-in_err-read_pattern_field : goal.returns-in_err-read_pattern_field
returns-in_err-read_pattern_field c = let p = err_from_is_err_and c.from_residual.result c.from_residual.ensures.1 in rw (p.1, p.2) (argument_fault _ _ _ c.in-Some.ensures _ c.in_err-read_pattern_field.ensures)
