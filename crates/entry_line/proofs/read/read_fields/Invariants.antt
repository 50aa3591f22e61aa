use Rattle.line.specs.Contract.{fields_in}
use Rattle.question.specs.Contract.{strings_in}
use Rattle.variables.specs.Contract.{scope_in}
use Rattle.condition.specs.Condition.{judge_of}
use Rattle.entry_line.proofs.ReadLaws.{ReadUpTo}
use Rattle.entry_line.proofs.read.read_fields.Given as goal

abbrev pub invariant-loop-i : goal.invariant-loop-i
invariant-loop-i l = ReadUpTo (judge_of l.user (strings_in l.groups) l.host l.minute.0) (scope_in l.user l.host l.bytes l.sizes l.names) l.judging l.command (fields_in l.text l.ends l.count) l.from l.entry l.i
