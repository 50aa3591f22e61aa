use Rattle.summary.specs.Summary.{ages_text}
use Rattle.output.proofs.BehindLaws.{after_then}
use Rattle.summary.proofs.lines.then_ages.Goals as goal

pub returns : goal.returns
unfolding ages_text
returns c = after_then (after_then (after_then c.then_below-below.ensures c.then_row-sum.ensures) c.then_row-ages.ensures) c.then_mean.ensures
