use Rattle.std.proofs.Common.{◌≡◌, Some, None, length, ap, arith, rules}
use Rattle.text.specs.Contract.{find_byte}
use Rattle.text.proofs.Laws.{part_rest}
use Rattle.text.proofs.FirstPart.{first_part, one_part}
use Rattle.text.proofs.split.SplitIterator.next.Goals as goal

-- the last part, and nothing left
pub returns-in_default-clause-steps : goal.returns-in_default-clause-steps
returns-in_default-clause-steps c = let e : c.args.self.now.rest ≡ Some c.in_ok-s.s = cc in let f : None ≡ find_byte c.args.self.now.byte 0 c.in_ok-s.s.now = cc in rw e (one_part _ _ f)

pub returns-in_default-clause-goes : goal.returns-in_default-clause-goes
returns-in_default-clause-goes c = let shorter = ap length (returns-in_default-clause-steps c) in search rules

pub overflow_add-self : goal.overflow_add-self
overflow_add-self c = let f = first_part _ _ _ c.in-Some.ensures in search rules

pub slice_bounds-self-count : goal.slice_bounds-self-count
slice_bounds-self-count c = let f = first_part _ _ _ c.in-Some.ensures in omega arith

pub slice_bounds-self-start : goal.slice_bounds-self-start
slice_bounds-self-start c = let f = first_part _ _ _ c.in-Some.ensures in omega arith

pub slice_bounds-result-end : goal.slice_bounds-result-end
slice_bounds-result-end c = let f = first_part _ _ _ c.in-Some.ensures in search rules

-- the part, and what is left
pub returns-clause-steps : goal.returns-clause-steps
returns-clause-steps c = let e : c.args.self.now.rest ≡ Some c.in_ok-s.s = cc in rw (part_rest, e) (first_part _ _ _ c.in-Some.ensures).first

pub returns-clause-goes : goal.returns-clause-goes
returns-clause-goes c = let shorter = ap length (returns-clause-steps c) in search rules
