use mathlib.Core.Path.{sym, ◌∙◌}
use native.Mathlib.Omega.{arith}
use lib.ListN.{drop}
use Rattle.variables.proofs.FieldLaws.{place_plain, place_closed, place_open}
use Rattle.text.proofs.Slices.{head_is_law}
use Rattle.text.proofs.Laws.{part_rest}
use Rattle.variables.proofs.field.name_place.Goals as goal

pub returns-then-not-head_is : goal.returns-then-not-head_is
returns-then-not-head_is c = place_plain _ _ (sym c.head_is.ensures ∙ c.if-not-head_is.true) c.word_length-w.ensures.0 c.word_length-w.ensures.1

pub slice_bounds-inner-start : goal.slice_bounds-inner-start
slice_bounds-inner-start c = let h = (head_is_law 40 c.args.rest.now (sym c.head_is.ensures ∙ c.if-not-head_is.false)).0 in omega (arith, h)

pub slice_bounds-inner-count : goal.slice_bounds-inner-count
slice_bounds-inner-count c = let h = (head_is_law 40 c.args.rest.now (sym c.head_is.ensures ∙ c.if-not-head_is.false)).0 in omega (arith, h)

pub returns-then-not-head_is-2 : goal.returns-then-not-head_is-2
returns-then-not-head_is-2 c = let r = c.args.rest.now in let w = c.word_length-w-2.result in let p = part_rest 1 r in let q = part_rest w (drop 1 r) in place_open r w (sym c.head_is.ensures ∙ c.if-not-head_is.false) (rw p at c.word_length-w-2.ensures.0) (rw (p, q) at (sym c.head_is-2.ensures ∙ c.if-not-head_is-2.true))

pub returns : goal.returns
returns c = let r = c.args.rest.now in let w = c.word_length-w-2.result in let p = part_rest 1 r in let q = part_rest w (drop 1 r) in place_closed r w (sym c.head_is.ensures ∙ c.if-not-head_is.false) (rw p at c.word_length-w-2.ensures.0) (rw (p, q) at (sym c.head_is-2.ensures ∙ c.if-not-head_is-2.false))
