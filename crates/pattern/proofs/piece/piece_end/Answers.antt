use mathlib.Core.Path.{sym}
use borrow.Author.Rules.{rules}
use Rattle.pattern.proofs.Pieces.{piece_time, piece_escape, piece_last, piece_set, piece_plain}
use Rattle.pattern.proofs.piece.piece_end.Goals as goal

pub returns-then-not-has_sets : goal.returns-then-not-has_sets
returns-then-not-has_sets c = piece_time _ _ _ c.requires (sym c.if-not-has_sets.ensures)

pub returns-in-92 : goal.returns-in-92
returns-in-92 c = piece_escape _ _ _ c.requires (sym c.if-not-has_sets.ensures) c.in-92.is c.if-next-p.true

pub returns-in-92-2 : goal.returns-in-92-2
returns-in-92-2 c = piece_last _ _ _ c.requires (sym c.if-not-has_sets.ensures) c.in-92.is c.if-next-p.false

pub returns-in-91 : goal.returns-in-91
returns-in-91 c = piece_set _ _ _ c.requires (sym c.if-not-has_sets.ensures) c.in-91.is c.set_end.ensures

pub returns-in_default : goal.returns-in_default
returns-in_default c = piece_plain _ _ _ c.requires (sym c.if-not-has_sets.ensures) (search rules) (search rules)
