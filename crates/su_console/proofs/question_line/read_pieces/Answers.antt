use mathlib.Core.Path.{◌∙◌}
use native.Mathlib.Omega.{arith}
use Rattle.text.proofs.Buffers.{wrote_length}
use Rattle.su_console.proofs.PieceLaws.{few_pieces, more_pieces, three_pieces, groups_fit, groups_put}
use Rattle.su_console.proofs.question_line.read_pieces.Goals as goal
use Rattle.su_console.proofs.question_line.read_pieces.Goals.{then-user-line-via-then-user-line, then-user-line-via-else-user-line+then-piece_end-line}

pub returns-then-user-line : goal.returns-then-user-line
returns-then-user-line c = let p = c.requires in elim c.then-user-line.branch [
  | then-user-line-via-then-user-line w ↦ record { size = p.1; asks = few_pieces _ _ _ c.piece_end-target.ensures.0 c.piece_end-user.ensures.0 w.if-user-line.true; placed = tt }
  | then-user-line-via-else-user-line+then-piece_end-line w ↦ record { size = p.1; asks = more_pieces _ _ _ c.piece_end-target.ensures.0 c.piece_end-user.ensures.0 w.if-user-line.false _ w.piece_end.ensures.0 w.if-piece_end-line.true; placed = tt }
]

pub returns-in_err-groups : goal.returns-in_err-groups
returns-in_err-groups c = let p = c.requires in
    let s = c.args.line.now in
    absurd (groups_fit s _ c.if-user-line.false p.0 p.1 c.put_groups.ensures c.in_err-groups.was)

pub returns : goal.returns
returns c = let p = c.requires in
    let h = c.if-user-line.false in
    let w = c.put_groups.ensures in
    let s = c.args.line.now in
    let g = groups_put s _ h p.0 p.1 w c.in_ok-groups.was in
    let a = c.piece_end-target.ensures in
    let b = c.piece_end-user.ensures in
    record {
      size = wrote_length w ∙ p.1;
      asks = three_pieces _ _ _ a.0 b.0 h _ c.piece_end.ensures.0 c.if-piece_end-line.false _ g.1;
      placed = (omega (arith, b.1), h, g.0);
    }
