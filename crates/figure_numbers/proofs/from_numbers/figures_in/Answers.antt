use mathlib.Core.Path.{◌∙◌}
use Rattle.figure_numbers.specs.Numbers.{count_in, sum_in, below_in}
use Rattle.figure_numbers.proofs.Placing.{figures_read, told_at}
use Rattle.figure_numbers.proofs.from_numbers.figures_in.Goals as goal

pub returns : goal.returns
returns c = figures_read c.args.numbers.now c.counts_from.ensures c.counts_from-2.ensures c.counts_from-3.ensures
    (c.below_in.ensures ∙ told_at below_in c.args.numbers.now 56 record { sfits = c.below_in-arg-1.given }) (c.sum_in.ensures ∙ told_at sum_in c.args.numbers.now 57 record { sfits = c.sum_in-arg-1.given })
    (c.count_in.ensures ∙ told_at count_in c.args.numbers.now 58 record { sfits = c.count_in-arg-1.given }) (c.count_in-2.ensures ∙ told_at count_in c.args.numbers.now 59 record { sfits = c.count_in-arg-2-1.given }) (c.count_in-3.ensures ∙ told_at count_in c.args.numbers.now 60 record { sfits = c.count_in-arg-3-1.given })
