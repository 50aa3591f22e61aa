use Rattle.summary.specs.Summary.{records_text}
use Rattle.output.proofs.BehindLaws.{after_then}
use Rattle.summary.proofs.lines.then_records.Goals as goal

pub returns : goal.returns
unfolding records_text
returns c = after_then (after_then (after_then c.then_row-refused.ensures c.then_row-given.ensures) c.then_row-past.ensures) c.then_row.ensures
