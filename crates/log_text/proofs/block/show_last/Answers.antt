use Rattle.std.proofs.Common.{◌≡◌, Bool, true, false, length, sym, ◌∙◌, arith}
use borrow.Author.Tests.{eqb-true, eq-eqb}
use Rattle.text.proofs.Laws.{clash}
use Rattle.log_text.proofs.LogLaws.{added_none, added_some}
use Rattle.log_text.proofs.block.show_last.Goals as goal

pub returns-then-is_empty : goal.returns-then-is_empty
returns-then-is_empty c = added_none _ _ (eqb-true _ _ (sym c.is_empty.ensures ∙ c.if-is_empty.true)) (omega arith)

pub returns : goal.returns
returns c =
    let some : length c.args.left.now ≡ 0 → ⊥ = λ z. let y : ◌≡◌ {A = Bool} false true = sym (sym c.is_empty.ensures ∙ c.if-is_empty.false) ∙ eq-eqb (length c.args.left.now) 0 z in clash cc in
    added_some _ some c.add_line.ensures
