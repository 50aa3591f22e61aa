use Rattle.std.proofs.lemmas.Result.{err_from_is_err_and}
use Rattle.entry.proofs.PairLaws.{command_fault, command_flat, command_number, command_unjudged}
use Rattle.entry.proofs.pair.read_command.Goals as goal

pub returns-in_err-expanded : goal.returns-in_err-expanded
returns-in_err-expanded c = let p = err_from_is_err_and c.from_residual.result c.from_residual.ensures.1 in rw (p.1, p.2) (command_fault _ _ _ c.in_err-expanded.ensures)

pub returns-in-Flat : goal.returns-in-Flat
returns-in-Flat c = command_flat _ _ _ c.if-judging.true (rw c.in-Flat.is at c.in_ok-expanded.ensures) c.matches_one.ensures

pub returns-in-Number : goal.returns-in-Number
returns-in-Number c = command_number _ _ _ c.if-judging.true (rw c.in-Number.is at c.in_ok-expanded.ensures) c.requires c.matches_pattern.ensures

pub returns-else-judging : goal.returns-else-judging
returns-else-judging c = command_unjudged _ _ _ _ c.if-judging.false c.in_ok-expanded.ensures
