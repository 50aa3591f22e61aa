use mathlib.Core.Path.{sym, ◌∙◌}
use Rattle.line.proofs.Search.{starts, cut_from, ends_first, ends_plain, goes_past, ends_cut, newline_plain}
use Rattle.line.proofs.ends.line_end.Goals as goal
use Rattle.line.proofs.ends.line_end.Goals.{then-at-from-via-then-at-from, then-at-from-via-else-at-from+then-not-continues}

pub loop-i-init : goal.loop-i-init
loop-i-init c = starts _ c.args.text.now c.args.from

pub returns-then-at-text : goal.returns-then-at-text
returns-then-at-text c = cut_from _ c.loop-i.invariant c.next_byte-at.ensures c.if-at-text.true

pub returns-then-at-from : goal.returns-then-at-from
returns-then-at-from c =
    let plain = newline_plain c.args.continuation in
    elim c.then-at-from.branch [
      | then-at-from-via-then-at-from w ↦ ends_first _ c.loop-i.invariant c.next_byte-at.ensures c.if-at-text.false plain w.if-at-from.true
      | then-at-from-via-else-at-from+then-not-continues w ↦ ends_plain _ c.loop-i.invariant c.next_byte-at.ensures c.if-at-text.false plain w.if-at-from.false (sym w.continues.ensures ∙ w.if-not-continues.true)
    ]

pub loop-i-preserved : goal.loop-i-preserved
loop-i-preserved c = goes_past _ c.loop-i.invariant c.next_byte-at.ensures c.if-at-text.false (newline_plain c.args.continuation) c.if-at-from.false (sym c.continues.ensures ∙ c.if-not-continues.false)

pub returns : goal.returns
returns c = ends_cut _ c.loop-i.invariant c.loop-i-test.false
