use Rattle.std.proofs.Common.{◌≡◌, ◌+◌, ◌-◌, ◌≤◌, length, drop}
use Rattle.glob.specs.Match.{matches}
use Rattle.glob.specs.Contract.{Covers}
use Rattle.glob.proofs.SearchLaws.{sought, from_star}
use Rattle.glob.proofs.matcher.search.Given as goal

abbrev pub invariant-loop-next : goal.invariant-loop-next
invariant-loop-next l =
    (from_star l.star ≤ length l.p) × (l.from ≤ length l.name) × Covers (length l.p) (length l.name - l.from) (length l.name) l.left
    × (sought l.star (drop (from_star l.star) l.p) (drop l.from l.name) ≡ matches l.p l.name)

abbrev pub decreases-loop-next : goal.decreases-loop-next
decreases-loop-next l = (length l.p - from_star l.star) + (length l.name - l.from)
