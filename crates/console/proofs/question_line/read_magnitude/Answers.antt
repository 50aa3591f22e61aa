use mathlib.Core.Path.{sym, ◌∙◌}
use native.Mathlib.Omega.{arith}
use Rattle.text.proofs.Numbers.{digit_range}
use Rattle.console.specs.Contract.{magnitude_limit}
use Rattle.console.proofs.NumberLaws.{magnitude_on, magnitude_off, magnitude_end, magnitude_none, magnitude_start}
use Rattle.console.proofs.question_line.read_magnitude.Goals as goal

pub returns-then-is_empty : goal.returns-then-is_empty
returns-then-is_empty c = magnitude_none _ (sym c.is_empty.ensures ∙ c.if-is_empty.true)

pub loop-b-init : goal.loop-b-init
loop-b-init c = (omega arith, magnitude_start _ (sym c.is_empty.ensures ∙ c.if-is_empty.false))

pub returns-then-not-is_digit : goal.returns-then-not-is_digit
returns-then-not-is_digit c = let l = c.loop-b in magnitude_off magnitude_limit l.v _ l.b-index c.loop-b-test.true (sym c.is_digit.ensures ∙ c.if-not-is_digit.true) ∙ l.invariant.1

pub overflow_sub-b : goal.overflow_sub-b
overflow_sub-b c = (digit_range _ (sym c.is_digit.ensures ∙ c.if-not-is_digit.false)).0

pub loop-b-preserved : goal.loop-b-preserved
loop-b-preserved c = let l = c.loop-b in
    (omega arith, rw (c.min-v.ensures, c.from.ensures) (magnitude_on magnitude_limit l.v _ l.b-index c.loop-b-test.true (sym c.is_digit.ensures ∙ c.if-not-is_digit.false) ∙ l.invariant.1))

pub returns : goal.returns
returns c = let l = c.loop-b in magnitude_end magnitude_limit l.v _ l.b-index c.loop-b-test.false l.invariant.0 ∙ l.invariant.1
