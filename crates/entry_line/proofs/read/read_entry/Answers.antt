use borrow.Author.Rules.{rules}
use Rattle.entry_line.proofs.ReadLaws.{entry_unjudged, entry_acts, entry_refused}
use Rattle.std.proofs.lemmas.Result.{err_from_is_err_and}
use Rattle.entry_line.proofs.read.read_entry.Goals as goal

pub returns-in_err-entry : goal.returns-in_err-entry
returns-in_err-entry c = let q = err_from_is_err_and c.from_residual.result c.from_residual.ensures.1 in rw (q.1, q.2) (entry_refused c.in_err-entry.ensures)

pub returns-then-not-judging : goal.returns-then-not-judging
returns-then-not-judging c = entry_unjudged c.in_ok-entry.ensures c.if-not-judging.true

pub returns : goal.returns
returns c = entry_acts c.in_ok-entry.ensures c.if-not-judging.false (search rules)
