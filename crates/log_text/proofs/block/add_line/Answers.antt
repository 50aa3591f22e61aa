use Rattle.log_text.proofs.ShowLaws.{added_line}
use Rattle.log_text.proofs.block.add_line.Goals as goal

pub returns : goal.returns
returns c = rw c.unwrap_or.ensures (added_line _ c.put_record.ensures c.requires)
