use Rattle.std.proofs.Common.{◌≡◌, ◌-◌, ◌≤◌, length}
use Rattle.responder.specs.Contract.{stand_in, Ready, Served}
use Rattle.responder.proofs.lines.take_block.Given as goal

abbrev pub invariant-loop-i : goal.invariant-loop-i
invariant-loop-i l =
    (l.i ≤ length l.block) × Ready (length l.line) (length l.out) (length l.records) l.run.progress × (length l.line ≡ length l.initial.line) × (length l.out ≡ length l.initial.out) × (length l.records ≡ length l.initial.records)
    × Served l.source l.file (length l.initial.line) l.block (stand_in l.initial.line l.initial.out l.initial.records l.initial.run.progress) l.initial.run (stand_in l.line l.out l.records l.run.progress) l.run l.i

abbrev pub decreases-loop-i : goal.decreases-loop-i
decreases-loop-i l = length l.block - l.i
