use Rattle.figure_numbers.proofs.Lending.{clears_short, clears_long}
use Rattle.figure_numbers.proofs.lent.clear.Goals as goal

pub returns-then-numbers-lt-LENGTH : goal.returns-then-numbers-lt-LENGTH
returns-then-numbers-lt-LENGTH c = clears_short c.args.numbers.now c.if-numbers-lt-LENGTH.true

pub returns : goal.returns
returns c = clears_long c.args.numbers.now _ _ c.if-numbers-lt-LENGTH.false c.new.ensures c.put_figures.ensures
