use Rattle.line.proofs.ScannerLaws.{goes_plain}
use Rattle.line.proofs.scanner.Scanner.past_plain.Goals as goal

pub returns : goal.returns
returns c = λ ends. goes_plain c.requires.0 _ c.requires.1 c.run_end-end.ensures.0 c.run_end-end.ensures.2 c.put_all.ensures.bytes
