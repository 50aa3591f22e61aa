use Prim.Native.Nat.{◌-◌}
use lib.ListN.{length}
use Rattle.line.specs.Contract.{continues_in}
use Rattle.line.proofs.Search.{Searching}
use Rattle.line.proofs.ends.line_end.Given as goal

abbrev pub invariant-loop-i : goal.invariant-loop-i
invariant-loop-i l = Searching (continues_in l.continuation) l.text l.from l.i l.count

abbrev pub decreases-loop-i : goal.decreases-loop-i
decreases-loop-i l = length l.text - l.i
