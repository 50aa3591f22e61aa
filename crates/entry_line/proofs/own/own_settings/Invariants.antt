use Rattle.std.specs.Prelude.{Ok}
use mathlib.Core.Path.{◌≡◌}
use mathlib.Core.List.{List, []}
use lib.ListN.{drop}
use Rattle.line.specs.Contract.{fields_in}
use Rattle.question.specs.Contract.{strings_in}
use Rattle.variables.specs.Contract.{scope_in}
use Rattle.options.specs.Arguments.{ArgumentPattern}
use Rattle.condition.specs.Condition.{Judge}
use Rattle.entry.specs.Field.{Entry as Held, first}
use Rattle.entry.specs.Entry.{fields_from}
use Rattle.entry.specs.Contract.{Sums}
use Rattle.entry_line.proofs.OwnLaws.{Reached}
use Rattle.entry_line.proofs.own.own_settings.Given as goal

-- the settings so far are those of the fields so far, and the rest of the fields makes the whole entry of them
abbrev pub invariant-loop-i : goal.invariant-loop-i
invariant-loop-i l = (judge : Judge) (ps : List ArgumentPattern) (e : Held) → Sums ps (strings_in l.args) l.initial.own [] → fields_from judge (scope_in l.user l.host l.bytes l.sizes l.names) first (drop l.from (fields_in l.text l.ends l.count)) ≡ Ok e →
    Reached judge (scope_in l.user l.host l.bytes l.sizes l.names) ps (strings_in l.args) l.position l.own (drop l.i (fields_in l.text l.ends l.count)) e
