use Rattle.log_text.proofs.ReadLaws.{loaded_behind}
use Rattle.log_text.proofs.show.read_behind.Goals as goal

pub returns : goal.returns
returns c = let a = c.args in loaded_behind a.begun a.block.now _ c.requires c.read_some.ensures
