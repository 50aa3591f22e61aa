use Prim.Native.Nat.{◌-◌}
use lib.ListN.{length}
use Rattle.line.specs.Contract.{continues_in}
use Rattle.line.proofs.WholeLaws.{LastFrom}
use Rattle.line.proofs.whole.last_end.Given as goal

-- the last end among the lines from here on is that of all lines
abbrev pub invariant-loop-line : goal.invariant-loop-line
invariant-loop-line l = LastFrom (continues_in l.continuation) l.text l.at

abbrev pub decreases-loop-line : goal.decreases-loop-line
decreases-loop-line l = length l.text - l.at
