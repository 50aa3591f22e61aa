use Rattle.std.proofs.Common.{refl}
use Rattle.record_log.proofs.OpeningLaws.{looks_on}
use Rattle.record_log.proofs.opening.Looking.on.Goals as goal

pub returns : goal.returns
returns c = looks_on c.args.block.now c.args.n c.requires.read c.requires.whole c.requires.going c.with_block.ensures refl
