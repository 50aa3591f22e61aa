use mathlib.Core.List.{List, []}
use Rattle.line.specs.Contract.{fields_in}
use Rattle.question.specs.Contract.{strings_in}
use Rattle.variables.specs.Contract.{scope_in}
use Rattle.options.specs.Arguments.{ArgumentPattern}
use Rattle.reader.specs.Contract.{Sums}
use Rattle.reader.proofs.GlobalLaws.{SoFar}
use Rattle.reader.proofs.global.read_global.Given as goal

abbrev pub invariant-loop-i : goal.invariant-loop-i
invariant-loop-i l = (ps : List ArgumentPattern) → Sums ps (strings_in l.args) l.initial.read [] → SoFar ps (strings_in l.args) (scope_in l.user l.host l.bytes l.sizes l.names) (fields_in l.text l.ends l.count) l.from l.i l.read
