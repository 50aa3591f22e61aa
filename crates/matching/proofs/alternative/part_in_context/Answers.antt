use mathlib.Core.Path.{sym, ◌∙◌}
use Rattle.text.proofs.Laws.{part_rest}
use Rattle.matching.proofs.AlternativeLaws.{part_colon, part_tilde, part_bad_name, part_name, part_third, part_both, part_bad_host}
use Rattle.matching.proofs.alternative.part_in_context.Goals as goal
use Rattle.matching.proofs.alternative.part_in_context.Goals.{then-contains-via-then-contains, then-contains-via-else-contains+then-contains-2}

pub returns-then-contains : goal.returns-then-contains
returns-then-contains c =
    elim c.then-contains.branch [
      | then-contains-via-then-contains w ↦ part_colon _ (sym c.contains.ensures.value ∙ w.if-contains.true)
      | then-contains-via-else-contains+then-contains-2 w ↦ part_tilde _ (sym w.contains-else-contains.ensures.value ∙ w.if-contains-2.true)
    ]

pub returns-then-not-good_part : goal.returns-then-not-good_part
returns-then-not-good_part c = part_bad_name _ (sym c.contains.ensures.value ∙ c.if-contains.false) (sym c.contains-else-contains.ensures.value ∙ c.if-contains-2.false) _ c.part_end-at.ensures (sym c.good_part.ensures ∙ c.if-not-good_part.true)

pub returns-then-a-at : goal.returns-then-a-at
returns-then-a-at c = part_name _ (sym c.contains.ensures.value ∙ c.if-contains.false) (sym c.contains-else-contains.ensures.value ∙ c.if-contains-2.false) _ c.part_end-at.ensures (sym c.good_part.ensures ∙ c.if-not-good_part.false) c.if-a-at.true

pub returns-then-part_end-a : goal.returns-then-part_end-a
returns-then-part_end-a c = part_third _ (sym c.contains.ensures.value ∙ c.if-contains.false) (sym c.contains-else-contains.ensures.value ∙ c.if-contains-2.false) _ c.part_end-at.ensures (sym c.good_part.ensures ∙ c.if-not-good_part.false) c.if-a-at.false _ c.part_end.ensures c.if-part_end-a.true

pub returns-then-good_part : goal.returns-then-good_part
returns-then-good_part c = part_both _ (sym c.contains.ensures.value ∙ c.if-contains.false) (sym c.contains-else-contains.ensures.value ∙ c.if-contains-2.false) _ c.part_end-at.ensures (sym c.good_part.ensures ∙ c.if-not-good_part.false) c.if-a-at.false _ c.part_end.ensures c.if-part_end-a.false (rw part_rest at (sym c.good_part-2.ensures ∙ c.if-good_part.true))

pub returns : goal.returns
returns c = part_bad_host _ (sym c.contains.ensures.value ∙ c.if-contains.false) (sym c.contains-else-contains.ensures.value ∙ c.if-contains-2.false) _ c.part_end-at.ensures (sym c.good_part.ensures ∙ c.if-not-good_part.false) c.if-a-at.false _ c.part_end.ensures c.if-part_end-a.false (rw part_rest at (sym c.good_part-2.ensures ∙ c.if-good_part.false))
