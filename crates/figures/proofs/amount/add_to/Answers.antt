use native.Mathlib.Omega.{arith}
use Rattle.figures.proofs.Adding.{added_in, added_out}
use Rattle.figures.proofs.amount.add_to.Goals as goal

pub returns-then-sum-ge-SUM : goal.returns-then-sum-ge-SUM
returns-then-sum-ge-SUM c = added_out _ _ (omega arith)

pub returns-then-amount-sum : goal.returns-then-amount-sum
returns-then-amount-sum c = added_out _ _ (omega arith)

pub returns : goal.returns
returns c = added_in _ _ (omega arith)
