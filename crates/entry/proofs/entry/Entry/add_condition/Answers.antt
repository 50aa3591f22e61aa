use Rattle.std.proofs.lemmas.Result.{err_from_is_err_and}
use Rattle.entry.proofs.AddLaws.{condition_refused, condition_added}
use Rattle.entry.proofs.entry.Entry.add_condition.Goals as goal

pub returns-in_err-read : goal.returns-in_err-read
returns-in_err-read c = λ j k t e h. let p = err_from_is_err_and c.from_residual.result c.from_residual.ensures.1 in rw (p.1, p.2) (condition_refused c.args.self _ _ c.requires (rw c.is_some-judging.ensures at c.in_err-read.ensures))

pub returns-in-Users : goal.returns-in-Users
returns-in-Users c = λ j k t e h. rw c.with_rest.ensures (condition_added c.args.self _ _ c.requires (rw (c.is_some-judging.ensures, c.in-Users.is) at c.in_ok-read.ensures) h)

pub returns-in-Times : goal.returns-in-Times
returns-in-Times c = λ j k t e h. rw c.with_rest-in-Times.ensures (condition_added c.args.self _ _ c.requires (rw (c.is_some-judging.ensures, c.in-Times.is) at c.in_ok-read.ensures) h)
