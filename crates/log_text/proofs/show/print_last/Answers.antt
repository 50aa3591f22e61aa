use Rattle.log_text.proofs.OutputLaws.{hands_added}
use Rattle.log_text.proofs.show.print_last.Goals as goal

pub returns : goal.returns
returns c = hands_added c.show_last-waiting.ensures c.write_waiting.ensures
