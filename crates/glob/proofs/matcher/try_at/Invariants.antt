use Prim.Native.Nat.{◌-◌}
use lib.ListN.{length}
use Rattle.glob.proofs.SearchLaws.{Trying}
use Rattle.glob.proofs.matcher.try_at.Given as goal

abbrev pub invariant-loop-at : goal.invariant-loop-at
invariant-loop-at l = Trying l.p l.i l.name l.j l.initial.left l.at l.to l.left

abbrev pub decreases-loop-at : goal.decreases-loop-at
decreases-loop-at l = length l.p - l.at
