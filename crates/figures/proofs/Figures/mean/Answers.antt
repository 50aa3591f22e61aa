use mathlib.Core.Path.{refl}
use Rattle.figures.specs.Figures.{mean_of}
use Rattle.figures.proofs.Figures.mean.Goals as goal

pub returns : goal.returns
unfolding mean_of
returns c = refl
