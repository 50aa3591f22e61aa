use Rattle.std.proofs.Common.{◌≡◌, ◌+◌, ◌-◌, ◌*◌, length}
use Rattle.pattern.proofs.Writing.{Walks, Puts}
use Rattle.pattern.proofs.writer.+put_list_put_pattern.Given as goal

abbrev pub decreases-put_list : goal.decreases-put_list
decreases-put_list l = 2 * (length l.p.now - l.at) + 1

abbrev pub decreases-put_pattern : goal.decreases-put_pattern
decreases-put_pattern l = 2 * (length l.p.now - l.at)

abbrev pub invariant-put_list-loop-end : goal.invariant-put_list-loop-end
invariant-put_list-loop-end l = (l.out ≡ l.fn.out) × Walks l.syntax l.inside l.p l.at l.k l.i l.j

abbrev pub decreases-put_list-loop-end : goal.decreases-put_list-loop-end
decreases-put_list-loop-end l = length l.p - l.i

abbrev pub invariant-put_pattern-loop-brace : goal.invariant-put_pattern-loop-brace
invariant-put_pattern-loop-brace l = Puts l.syntax l.inside l.p l.at l.k l.m l.fn.out l.out l.i l.rest l.j l.n

abbrev pub decreases-put_pattern-loop-brace : goal.decreases-put_pattern-loop-brace
decreases-put_pattern-loop-brace l = length l.p - l.i
