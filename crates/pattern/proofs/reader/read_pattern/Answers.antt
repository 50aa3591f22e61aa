use Rattle.pattern.specs.Contract.{shape_of}
use Rattle.pattern.specs.Tree.{tree_of}
use Rattle.pattern.proofs.Readings.{told_malformed}
use Rattle.pattern.proofs.reader.read_pattern.Goals as goal

pub returns-in_err-read : goal.returns-in_err-read
unfolding shape_of tree_of
returns-in_err-read c = rw c.from_residual.ensures (told_malformed _ _ c.in_err-read.ensures)
