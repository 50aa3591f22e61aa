use mathlib.Core.Path.{refl}
use Rattle.reader.specs.State.{start}
use Rattle.reader.proofs.state.Reader.new.Goals as goal

pub returns : goal.returns
unfolding start
returns c = λ xs. record { options = c.new.ensures; failures = c.new-2.ensures xs; shell = refl }
