use mathlib.Core.Path.{refl}
use Rattle.summary.proofs.GatherLaws.{prints_none, prints_figures}
use Rattle.summary.proofs.gather.print_figures.Goals as goal

pub returns-then-reading : goal.returns-then-reading
returns-then-reading c = prints_none c.new-output.ensures.0 refl

pub returns : goal.returns
returns c = prints_figures c.read_blocks-reading.ensures c.new-output.ensures.0 c.print_summary.ensures refl
