use Rattle.std.specs.Prelude.{Option}
use Prim.Native.Nat.{◌-◌, ◌≤◌}
use lib.ListN.{length}
use Rattle.pattern.specs.declared.run.Run.{Run}
use Rattle.pattern.specs.Contract.{RunAt}
use Rattle.pattern.proofs.run.run_at.Given as goal

abbrev pub invariant-loop-i : goal.invariant-loop-i
invariant-loop-i l = (l.i ≤ length l.p) × ((r : Option Run) → RunAt l.syntax l.inside l.p l.i r → RunAt l.syntax l.inside l.p l.at r)

abbrev pub decreases-loop-i : goal.decreases-loop-i
decreases-loop-i l = length l.p - l.i
