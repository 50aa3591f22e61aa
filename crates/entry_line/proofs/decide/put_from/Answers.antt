use mathlib.Core.Path.{ap}
use Rattle.text.proofs.Buffers.{wrote_as}
use Rattle.entry.specs.Path.{starred}
use Rattle.entry_line.proofs.DecideLaws.{rest_from}
use Rattle.entry_line.proofs.decide.put_from.Goals as goal

pub returns : goal.returns
returns c = let a = c.args in wrote_as c.put_path.ensures (ap (starred a.command.now) (rest_from a.text.now a.at _ c.min-start.ensures))
