use mathlib.Core.Path.{◌≡◌}
use Prim.Native.Nat.{◌-◌, ◌%◌, ◌≤◌}
use lib.ListN.{length, take}
use Rattle.log_text.specs.LogText.{record_lines}
use Rattle.log_text.specs.Contract.{HandsOn}
use Rattle.log_text.proofs.show.print_records.Given as goal

abbrev pub invariant-loop-at : goal.invariant-loop-at
invariant-loop-at l = (l.at ≤ length l.block) × (length l.out ≡ length l.initial.out) × (32 ≤ length l.out) × (l.at % 8 ≡ 0) × HandsOn (record_lines (take l.at l.block)) l.initial.output l.output

abbrev pub decreases-loop-at : goal.decreases-loop-at
decreases-loop-at l = length l.block - l.at
