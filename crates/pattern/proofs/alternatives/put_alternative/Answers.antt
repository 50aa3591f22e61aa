use mathlib.Core.Bool.{false}
use lib.ListN.{drop}
use Rattle.pattern.specs.Tree.{pattern_of}
use Rattle.pattern.proofs.TopLevel.{chosen_is}
use Rattle.text.proofs.Buffers.{wrote_as}
use Rattle.pattern.proofs.alternatives.put_alternative.Goals as goal

pub returns : goal.returns
returns c =
    let a = c.args in
    wrote_as c.put_pattern.ensures (chosen_is (pattern_of a.syntax false (drop a.at a.p.now)) a.number a.k c.requires.1 c.requires.3)
