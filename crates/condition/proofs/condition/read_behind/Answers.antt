use mathlib.Core.Logic.{inl, inr}
use mathlib.Core.Path.{sym, ◌∙◌}
use Rattle.std.proofs.lemmas.Result.{err_from_is_err_and}
use Rattle.text.proofs.Laws.{part_rest}
use Rattle.condition.proofs.ReadLaws.{behind_bad, Behind, behind_fault, behind_read}
use Rattle.condition.proofs.condition.read_behind.Goals as goal
use Rattle.condition.proofs.condition.read_behind.Goals.{else-not-written-via-then-not-written+else-contains, else-not-written-via-else-not-written}

pub returns-then-contains : goal.returns-then-contains
returns-then-contains c = behind_bad _ _ _ _ _ c.prefix_of-asks.result c.prefix_of-asks.ensures.0 c.if-not-written.true (sym c.contains.ensures.value ∙ c.if-contains.true)

pub returns-in_err-kept : goal.returns-in_err-kept
returns-in_err-kept c =
    let f : Behind c.args.text.now c.prefix_of-asks.result = elim c.else-not-written.branch [ else-not-written-via-then-not-written+else-contains w ↦ inr (sym w.contains.ensures.value ∙ w.if-contains.false) | else-not-written-via-else-not-written w ↦ inl w.if-not-written.false ] in
    let p = err_from_is_err_and c.from_residual.result c.from_residual.ensures.1 in
    rw (p.1, p.2) (behind_fault _ _ _ _ _ c.prefix_of-asks.result c.prefix_of-asks.ensures.0 f _ (rw part_rest at c.in_err-kept.ensures))

pub returns : goal.returns
returns c =
    let f : Behind c.args.text.now c.prefix_of-asks.result = elim c.else-not-written.branch [ else-not-written-via-then-not-written+else-contains w ↦ inr (sym w.contains.ensures.value ∙ w.if-contains.false) | else-not-written-via-else-not-written w ↦ inl w.if-not-written.false ] in
    rw c.read_for.ensures (behind_read _ _ _ _ _ c.prefix_of-asks.result c.prefix_of-asks.ensures.0 f _ _ c.kept_for.ensures (rw part_rest at c.in_ok-kept.ensures))
