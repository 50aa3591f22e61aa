use mathlib.Core.Path.{◌≡◌}
use Prim.Native.Nat.{◌+◌, ◌≤◌}
use lib.ListN.{length, take, drop}
use Rattle.log_text.proofs.block.move_front.Given as goal

abbrev pub invariant-loop-i : goal.invariant-loop-i
invariant-loop-i l = (l.from ≤ l.end) × (l.end ≤ length l.initial.block) × (length l.block ≡ length l.initial.block) × (take l.i l.block ≡ take l.i (drop l.from l.initial.block)) × (drop (l.from + l.i) l.block ≡ drop (l.from + l.i) l.initial.block)
