use mathlib.Core.Path.{ap}
use native.Mathlib.Omega.{arith}
use borrow.Author.Rules.{rules}
use lib.ListN.{length}
use Rattle.text.proofs.Laws.{part_rest}
use Rattle.question.proofs.ZeroEnded.{first_string, no_string}
use Rattle.question.proofs.strings.StringsIterator.next.Goals as goal

pub returns-in_err-end-clause-steps : goal.returns-in_err-end-clause-steps
returns-in_err-end-clause-steps c = let e = no_string _ c.in_err-end.ensures in rw c.from_residual.ensures (e, e)

pub overflow_add-self : goal.overflow_add-self
overflow_add-self c = let f = first_string _ _ c.in_ok-end.ensures in search rules

pub slice_bounds-self-count : goal.slice_bounds-self-count
slice_bounds-self-count c = let f = first_string _ _ c.in_ok-end.ensures in omega arith

pub slice_bounds-self-start : goal.slice_bounds-self-start
slice_bounds-self-start c = let f = first_string _ _ c.in_ok-end.ensures in omega arith

pub slice_bounds-result-end : goal.slice_bounds-result-end
slice_bounds-result-end c = let f = first_string _ _ c.in_ok-end.ensures in search rules

-- the string, and what is left
pub returns-clause-steps : goal.returns-clause-steps
returns-clause-steps c = rw part_rest (first_string _ _ c.in_ok-end.ensures).first

pub returns-clause-goes : goal.returns-clause-goes
returns-clause-goes c = let shorter = ap length (returns-clause-steps c) in search rules
