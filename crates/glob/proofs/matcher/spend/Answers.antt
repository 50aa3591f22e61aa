use Rattle.glob.proofs.BudgetLaws.{spend_none, spend_on, spend_last, spend_row}
use Rattle.glob.proofs.matcher.spend.Goals as goal

pub returns-then-budget-eq0 : goal.returns-then-budget-eq0
returns-then-budget-eq0 c = spend_none _ _ c.if-budget-eq0.true

pub returns-then-budget-row : goal.returns-then-budget-row
returns-then-budget-row c = spend_on _ _ c.if-budget-eq0.false c.if-budget-row.true

pub returns-then-budget-eq1 : goal.returns-then-budget-eq1
returns-then-budget-eq1 c = spend_last _ _ c.if-budget-eq1.true c.if-budget-row.false

pub returns : goal.returns
returns c = spend_row _ _ c.requires.0 c.requires.1 c.if-budget-eq0.false c.if-budget-row.false c.if-budget-eq1.false
