use mathlib.Core.Path.{sym}
use native.Mathlib.Omega.{arith}
use lib.Seq.{length-take-le}
use Rattle.text.proofs.Laws.{part_rest}
use Rattle.text.proofs.Lists.{parted_found, parted_missing}
use Rattle.text.proofs.Slices.{byte_at}
use Rattle.options.proofs.parts.parted.Goals as goal

pub returns-in_err-i : goal.returns-in_err-i
returns-in_err-i c = rw c.from_residual.ensures (sym (parted_missing _ _ (sym c.in_err-i.ensures)))

pub slice_bounds-result-end : goal.slice_bounds-result-end
slice_bounds-result-end c = let t = byte_at _ _ _ (sym c.in_ok-i.ensures) in sym (length-take-le _ c.args.s.now (omega (arith, t.0)))

pub overflow_add-result : goal.overflow_add-result
overflow_add-result c = let t = byte_at _ _ _ (sym c.in_ok-i.ensures) in omega (arith, t.0)

pub slice_bounds-result-count : goal.slice_bounds-result-count
slice_bounds-result-count c = let t = byte_at _ _ _ (sym c.in_ok-i.ensures) in omega (arith, t.0)

pub slice_bounds-result-start : goal.slice_bounds-result-start
slice_bounds-result-start c = let t = byte_at _ _ _ (sym c.in_ok-i.ensures) in omega (arith, t.0)

pub returns : goal.returns
returns c = rw part_rest (sym (parted_found _ _ _ (sym c.in_ok-i.ensures)))
