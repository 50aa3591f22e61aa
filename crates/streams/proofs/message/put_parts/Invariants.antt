use Rattle.std.proofs.Common.{◌≤◌, length}
use Rattle.streams.proofs.message.put_parts.Given as goal

abbrev pub invariant-loop-part : goal.invariant-loop-part
invariant-loop-part l = l.n ≤ length l.out
