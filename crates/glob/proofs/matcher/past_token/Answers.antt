use Rattle.std.proofs.Common.{refl, ◌∙◌, arith}
use borrow.Author.Tests.{le-ltb}
use Rattle.glob.proofs.MatchLaws.{is_question_law, is_backslash, is_bracket, is_ordinary, question_at, ordinary_at, escape_last, escape_at, set_open, set_at}
use Rattle.glob.proofs.SearchLaws.{no_byte_law, any_byte_law, this_byte_law, set_byte}
use Rattle.glob.proofs.matcher.past_token.Goals as goal
use Rattle.glob.proofs.matcher.past_token.Goals.{then-end-p, else-end-p, then-k-p, else-k-p}

pub returns-in-63 : goal.returns-in-63
returns-in-63 c = any_byte_law _ _ _ _ (omega arith) (omega arith) (question_at _ _ c.requires.0 (is_question_law c.in-63.is))

pub returns-after-k-p : goal.returns-after-k-p
returns-after-k-p c =
    let o = is_backslash c.in-92.is in
    rw c.then_some.ensures (elim c.if-k-p.branch [
      | then-k-p w ↦ this_byte_law _ _ _ _ (omega arith) (omega arith) _ _ (escape_at _ _ c.requires.0 o w.if-k-p.true) w.then_some-is
      | else-k-p w ↦ rw (w.then_some-is ∙ le-ltb _ _ w.if-k-p.false) (no_byte_law _ _ _ (escape_last _ _ c.requires.0 o w.if-k-p.false))
    ])

pub returns-after-end-p : goal.returns-after-end-p
returns-after-end-p c =
    let o = is_bracket c.in-91.is in
    let e = c.close-end.ensures.0 in
    rw c.then_some-in-91.ensures (elim c.if-end-p.branch [
      | then-end-p w ↦ set_byte _ _ _ _ (omega arith) (omega arith) _ _ (set_at _ _ c.requires.0 _ o e w.if-end-p.true) (w.then_some-is ∙ w.in_set.ensures)
      | else-end-p w ↦ rw (w.then_some-is ∙ le-ltb _ _ w.if-end-p.false) (no_byte_law _ _ _ (set_open _ _ c.requires.0 _ o e w.if-end-p.false))
    ])

pub returns-in_default : goal.returns-in_default
returns-in_default c = rw c.then_some-in_default.ensures (this_byte_law _ _ _ _ (omega arith) (omega arith) _ _ (ordinary_at _ _ c.requires.0 (is_ordinary c.requires.1 (λ e. omega arith) (λ e. omega arith) (λ e. omega arith))) refl)
