use Rattle.options.proofs.IdLaws.{copied}
use Rattle.options.proofs.ids.IdName.of.Goals as goal

pub returns : goal.returns
returns c = copied _ _ _ _ c.min-size.ensures c.copy_from_slice.ensures.after
