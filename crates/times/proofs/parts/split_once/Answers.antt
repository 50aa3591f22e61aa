use mathlib.Core.Path.{sym}
use native.Mathlib.Omega.{arith}
use borrow.Author.Rules.{rules}
use Rattle.text.proofs.Laws.{part_rest}
use Rattle.text.proofs.Leads.{found_lead}
use Rattle.text.proofs.Lists.{parted_found, parted_missing}
use Rattle.times.proofs.parts.split_once.Goals as goal

pub returns-in_err-i : goal.returns-in_err-i
returns-in_err-i c = rw c.from_residual.ensures (parted_missing _ _ (sym c.in_err-i.ensures))

pub slice_bounds-result-end : goal.slice_bounds-result-end
slice_bounds-result-end c = let f = found_lead _ _ _ (sym c.in_ok-i.ensures) in search rules

pub overflow_add-result : goal.overflow_add-result
overflow_add-result c = let f = found_lead _ _ _ (sym c.in_ok-i.ensures) in search rules

pub slice_bounds-result-count : goal.slice_bounds-result-count
slice_bounds-result-count c = let f = found_lead _ _ _ (sym c.in_ok-i.ensures) in omega arith

pub slice_bounds-result-start : goal.slice_bounds-result-start
slice_bounds-result-start c = let f = found_lead _ _ _ (sym c.in_ok-i.ensures) in omega arith

pub returns : goal.returns
returns c = rw part_rest (parted_found _ _ _ (sym c.in_ok-i.ensures))
