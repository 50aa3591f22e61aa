use mathlib.Core.Path.{sym}
use Rattle.pattern.proofs.Pieces.{set_open, set_faulty, set_good}
use Rattle.pattern.proofs.piece.set_end.Goals as goal
use Rattle.pattern.proofs.piece.set_end.Goals.{else-end-p-via-then-end-p+else-good_set, else-end-p-via-else-end-p}

pub returns-then-good_set : goal.returns-then-good_set
returns-then-good_set c = set_good _ _ _ c.requires.0 c.requires.1 c.close-end.ensures.0 c.if-end-p.true (sym c.if-good_set.ensures)

pub returns : goal.returns
returns c =
    elim c.else-end-p.branch [
      | else-end-p-via-then-end-p+else-good_set w ↦ set_faulty _ _ _ c.requires.0 c.requires.1 c.close-end.ensures.0 (sym w.if-good_set.ensures)
      | else-end-p-via-else-end-p w ↦ set_open _ _ _ c.requires.0 c.requires.1 c.close-end.ensures.0 w.if-end-p.false
    ]
