use Rattle.std.proofs.Common.{◌+◌, ◌-◌, ◌≤◌, length}
use Rattle.suauth.specs.Contract.{question_in}
use Rattle.suauth.proofs.LineLaws.{SoFar}
use Rattle.suauth.proofs.lines.read_lines.Given as goal

abbrev pub invariant-loop-from : goal.invariant-loop-from
invariant-loop-from l = record {
  inside : l.from ≤ length l.file;
  few : l.number ≤ l.from + 1;
  so_far : SoFar (question_in l.target l.user l.groups) l.file l.decided l.from l.number;
}

abbrev pub decreases-loop-from : goal.decreases-loop-from
decreases-loop-from l = length l.file - l.from
