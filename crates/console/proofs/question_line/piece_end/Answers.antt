use Rattle.console.proofs.PieceLaws.{end_within}
use Rattle.console.proofs.question_line.piece_end.Goals as goal

pub returns : goal.returns
returns c = let e = c.byte_from.ensures in (e.0, e.1, end_within _ _ _ e.0 e.2)
