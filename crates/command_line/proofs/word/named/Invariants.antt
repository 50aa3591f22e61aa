use Rattle.std.proofs.Common.{◌≡◌, drop, map}
use Rattle.command_line.specs.Word.{named}
use Rattle.command_line.specs.Contract.{written}
use Rattle.command_line.proofs.word.named.Given as goal

abbrev pub invariant-loop-known : goal.invariant-loop-known
invariant-loop-known l = named l.text (map written (drop l.known-index l.options)) ≡ named l.text (map written l.options)
