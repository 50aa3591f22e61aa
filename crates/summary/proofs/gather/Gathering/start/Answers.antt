use mathlib.Core.Path.{refl}
use Rattle.summary.proofs.GatherLaws.{gathered_none}
use Rattle.summary.proofs.gather.Gathering.start.Goals as goal

pub returns : goal.returns
returns c = gathered_none c.new.ensures refl refl
