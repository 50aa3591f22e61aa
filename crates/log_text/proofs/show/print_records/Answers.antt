use mathlib.Core.Path.{refl, sym, ap, ◌∙◌}
use native.Mathlib.Omega.{arith}
use borrow.Author.Rules.{rules}
use lib.ListN.{length, length-drop, length-take}
use Rattle.text.proofs.Laws.{part_rest}
use Rattle.log_text.proofs.OutputLaws.{hands_start, hands_failed, hands_shown, hands_all}
use Rattle.log_text.proofs.show.print_records.Goals as goal

pub loop-at-init : goal.loop-at-init
loop-at-init c = (omega arith, refl, c.requires, refl, hands_start c.args.block.now _ (omega arith))

pub overflow_sub-block : goal.overflow_sub-block
overflow_sub-block c = omega arith

pub slice_bounds-show_block-count : goal.slice_bounds-show_block-count
slice_bounds-show_block-count c = omega arith

pub slice_bounds-show_block-start : goal.slice_bounds-show_block-start
slice_bounds-show_block-start c = omega arith

pub slice_bounds-show_block-end : goal.slice_bounds-show_block-end
slice_bounds-show_block-end c = omega arith

pub show_block-shown-requires : goal.show_block-shown-requires
show_block-shown-requires c = omega arith

pub slice_bounds-write_waiting-end : goal.slice_bounds-write_waiting-end
slice_bounds-write_waiting-end c = omega (arith, c.show_block-shown.ensures.reached.within, length-take c.show_block-shown.result.waiting c.show_block-shown.new.out)

pub overflow_add-at : goal.overflow_add-at
overflow_add-at c = let l = c.loop-at in
    let s = c.args.block.now in
    let z = ap length (part_rest l.at s) ∙ length-drop l.at s in
    omega (arith, c.show_block-shown.ensures.shows.part, z, l.invariant.0)

pub loop-at-smaller : goal.loop-at-smaller
loop-at-smaller c = let l = c.loop-at in
    let s = c.args.block.now in
    let z = ap length (part_rest l.at s) ∙ length-drop l.at s in
    let e = c.show_block-shown.ensures in
    let m = e.reached.moves (omega (arith, z, c.loop-at-test.true)) (omega (arith, l.invariant.2)) in
    omega (arith, m, e.shows.part, z)

pub loop-at-preserved : goal.loop-at-preserved
loop-at-preserved c = let l = c.loop-at in
    let s = c.args.block.now in
    let z = ap length (part_rest l.at s) ∙ length-drop l.at s in
    let e = c.show_block-shown.ensures in
    (omega (arith, e.shows.part, z, l.invariant.0), search rules, search rules, omega (arith, e.shows.whole, l.invariant.3), hands_shown s _ (part_rest l.at s) l.invariant.0 l.invariant.3 l.invariant.4 e.shows c.write_waiting-output.ensures)

pub returns-else-is_whole : goal.returns-else-is_whole
returns-else-is_whole c = hands_failed (sym c.is_whole.ensures ∙ c.if-is_whole.false)

pub returns-after-loop-at : goal.returns-after-loop-at
returns-after-loop-at c = let l = c.loop-at in hands_all c.args.block.now l.invariant.0 l.invariant.3 (omega (arith, c.loop-at-test.false)) l.invariant.4
