use mathlib.Core.Path.{sym, ◌∙◌}
use native.Mathlib.Omega.{arith}
use Rattle.su_console.proofs.PieceLaws.{long_line, zero_in_line, good_line_law}
use Rattle.su_console.proofs.question_line.read_su_question_line.Goals as goal
use Rattle.su_console.proofs.question_line.read_su_question_line.Goals.{then-line-gt-BYTES-via-then-line-gt-BYTES, then-line-gt-BYTES-via-else-line-gt-BYTES+then-contains}

pub returns-then-line-gt-BYTES : goal.returns-then-line-gt-BYTES
returns-then-line-gt-BYTES c = elim c.then-line-gt-BYTES.branch [
  | then-line-gt-BYTES-via-then-line-gt-BYTES w ↦ record { size = omega arith; asks = long_line _ w.if-line-gt-BYTES.true; placed = tt }
  | then-line-gt-BYTES-via-else-line-gt-BYTES+then-contains w ↦ record { size = omega arith; asks = zero_in_line _ (sym w.contains.ensures.value ∙ w.if-contains.true); placed = tt }
]

pub returns : goal.returns
returns c = let r = c.read_pieces.ensures in record { size = r.size; asks = r.asks ∙ good_line_law _ c.if-line-gt-BYTES.false (sym c.contains.ensures.value ∙ c.if-contains.false); placed = r.placed }
