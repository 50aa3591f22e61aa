use Rattle.std.proofs.Common.{◌≡◌, ◌+◌, drop}
use Rattle.command_line.specs.Options.{option_count}
use Rattle.command_line.specs.declared.word.Word.TheVariants.{Operand}
use Rattle.command_line.proofs.options.count_options.Given as goal

abbrev pub invariant-loop-i : goal.invariant-loop-i
invariant-loop-i l = l.i + option_count l.before (drop l.i l.words) ≡ option_count Operand l.words
