use Prim.Native.Nat.{◌+◌, ◌-◌, ◌≤◌}
use mathlib.Core.Path.{◌≡◌}
use lib.ListN.{length}
use Rattle.question.specs.Question.{Question}
use Rattle.line.specs.Scan.{most_joined, most_fields}
use Rattle.table_lines.specs.Contract.{AskedWith}
use Rattle.table_lines.proofs.LineLaws.{SoFar}
use Rattle.table_lines.proofs.lines.read_lines.Given as goal

abbrev pub invariant-loop-at : goal.invariant-loop-at
invariant-loop-at l = record {
  inside : l.at ≤ length l.table;
  few : l.number ≤ l.at + 1;
  room : length l.text ≡ most_joined;
  places : length l.ends ≡ most_fields;
  so_far : (q : Question) → AskedWith q l.command l.user l.groups l.host l.minute l.last l.args → SoFar q l.table l.variables l.reader l.decision l.path l.at l.number;
}

abbrev pub decreases-loop-at : goal.decreases-loop-at
decreases-loop-at l = length l.table - l.at
