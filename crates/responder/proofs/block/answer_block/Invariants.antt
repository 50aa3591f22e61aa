use mathlib.Core.Path.{◌≡◌}
use Prim.Native.Nat.{◌≤◌}
use lib.ListN.{length, take}
use Rattle.responder.specs.Contract.{stand_in, Within, Takes}
use Rattle.responder.proofs.block.answer_block.Given as goal

abbrev pub invariant-loop-i : goal.invariant-loop-i
invariant-loop-i l = (l.i ≤ length l.block) × Within (length l.line) (length l.out) (length l.records) l.progress × (length l.line ≡ length l.initial.line) × (length l.out ≡ length l.initial.out) × (length l.records ≡ length l.initial.records)
    × (l.i ≡ 0 → l.progress ≡ l.initial.progress) × Takes l.source l.file l.logged (length l.initial.line) (stand_in l.initial.line l.initial.out l.initial.records l.initial.progress) (take l.i l.block) (stand_in l.line l.out l.records l.progress)
