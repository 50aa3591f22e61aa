use native.Mathlib.Omega.{arith}
use Rattle.line.proofs.ScannerLaws.{goes_comment}
use Rattle.line.proofs.scanner.Scanner.past_comment.Goals as goal

pub returns : goal.returns
returns c = λ text. goes_comment c.requires.0 _ c.requires.1 c.byte_from-end.ensures.0 (c.byte_from-end.ensures.2 (omega arith)) (c.part.ensures text)
