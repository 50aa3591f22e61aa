use Rattle.line.proofs.ScannerLaws.{goes_byte}
use native.Mathlib.Omega.{arith}
use Rattle.line.proofs.scanner.Scanner.past_byte.Goals as goal

pub returns : goal.returns
returns c = (omega arith, goes_byte c.requires.0 c.requires.1 c.requires.2 c.mode_after.ensures c.add.ensures)
