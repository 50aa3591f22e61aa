use Rattle.summary.specs.Summary.{row_text}
use Rattle.output.proofs.BehindLaws.{after_then}
use Rattle.summary.proofs.lines.then_row.Goals as goal

pub returns : goal.returns
unfolding row_text
returns c = after_then (after_then c.then_all-named.ensures c.then_decimal.ensures) c.then_all.ensures
