use Rattle.std.proofs.Common.{◌≡◌, [], take, drop}
use Rattle.command_line.specs.Options.{wrong_among}
use Rattle.command_line.proofs.options.wrong_among.Given as goal

abbrev pub invariant-loop-i : goal.invariant-loop-i
invariant-loop-i l = wrong_among (take l.i l.options) (drop l.i l.options) ≡ wrong_among [] l.options
