use Rattle.pattern.proofs.FlatLaws.{past_end, flat_from, braced_from, malformed_from, fails_from}
use Rattle.pattern.proofs.Expanding.{told_none}
use Rattle.pattern.proofs.alternatives.alternative_at.Goals as goal

pub returns-then-p-at : goal.returns-then-p-at
returns-then-p-at c = past_end _ _ _ c.if-p-at.true

pub returns-in_err-end : goal.returns-in_err-end
returns-in_err-end c = rw c.from_residual.ensures (fails_from _ _ _ c.if-p-at.false c.in_err-end.ensures)

pub returns-in_err-read-in-Opens : goal.returns-in_err-read-in-Opens
returns-in_err-read-in-Opens c = rw c.from_residual-in_err-read-in-Opens.ensures (malformed_from _ _ _ c.if-p-at.false (told_none _ _ _ c.in_err-read-in-Opens.ensures))

pub returns-in-Ends : goal.returns-in-Ends
returns-in-Ends c = flat_from _ _ _ c.if-p-at.false _ (rw c.in-Ends.is at c.in_ok-end.ensures)

pub returns-in_ok-read-in-Opens : goal.returns-in_ok-read-in-Opens
returns-in_ok-read-in-Opens c =
    let r = c.in_ok-read-in-Opens.read in
    braced_from _ _ _ c.if-p-at.false _ r.next r.depth r.number (rw c.in-Opens.is at c.in_ok-end.ensures) c.in_ok-read-in-Opens.ensures
