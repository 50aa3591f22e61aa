use Rattle.std.proofs.Common.{◌≡◌, ◌+◌, length, drop}
use Rattle.text.specs.Buffer.{laid}
use Rattle.text.proofs.buffer.put_all.Given as goal

abbrev pub invariant-loop-i : goal.invariant-loop-i
invariant-loop-i l = (length l.out ≡ length l.initial.out) × (laid l.out (l.n + l.i) (drop l.i l.s) ≡ laid l.initial.out l.n l.s)
