use mathlib.Core.Path.{refl}
use Rattle.text.specs.Lists.{count}
use Rattle.figures.specs.Figures.{how_many, total, refused_of, table, figures_of}
use Rattle.figures.proofs.Figures.new.Goals as goal

pub returns : goal.returns
unfolding figures_of table how_many total refused_of count
returns c = refl
