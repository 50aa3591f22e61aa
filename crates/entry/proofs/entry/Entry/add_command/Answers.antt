use Rattle.std.proofs.lemmas.Result.{err_from_is_err_and}
use Rattle.entry.proofs.AddLaws.{command_refused, command_added}
use Rattle.entry.proofs.entry.Entry.add_command.Goals as goal

pub returns-in_err-matches : goal.returns-in_err-matches
returns-in_err-matches c = λ t e h n. let p = err_from_is_err_and c.from_residual.result c.from_residual.ensures.1 in rw (p.1, p.2) (command_refused _ _ c.in_err-matches.ensures)

pub returns : goal.returns
returns c = λ t e h n. rw c.with_command.ensures (command_added _ _ c.in_ok-matches.ensures h n)
