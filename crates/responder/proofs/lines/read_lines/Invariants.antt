use Rattle.std.proofs.Common.{◌≡◌, true, length}
use Rattle.responder.specs.Contract.{stand_in, Ready, SoFar, Answers}
use Rattle.responder.proofs.lines.read_lines.Given as goal

abbrev pub invariant-loop : goal.invariant-loop
invariant-loop l =
    Ready (length l.line) (length l.out) (length l.records) l.run.progress × (length l.line ≡ length l.initial.line) × (length l.out ≡ length l.initial.out) × (length l.records ≡ length l.initial.records) × (65536 ≡ length l.block)
    × (l.run.going ≡ true → SoFar l.source l.file (length l.initial.line) l.initial.run (stand_in l.line l.out l.records l.run.progress) l.run) × Answers l.source l.file l.initial.run l.run
