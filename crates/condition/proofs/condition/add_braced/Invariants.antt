use mathlib.Core.Path.{◌≡◌}
use lib.ListN.{length, drop}
use Rattle.condition.specs.Contract.{added_with, expansions_from}
use Rattle.condition.proofs.condition.add_braced.Given as goal

abbrev pub invariant-loop-k : goal.invariant-loop-k
invariant-loop-k l = (length l.out ≡ 1024) × (l.number ≡ length (expansions_from l.syntax l.p l.at)) × (added_with l.judging l.user l.groups l.host l.minute l.negated l.asks l.r (drop l.k (expansions_from l.syntax l.p l.at)) ≡ added_with l.judging l.user l.groups l.host l.minute l.negated l.asks l.initial.r (expansions_from l.syntax l.p l.at))
