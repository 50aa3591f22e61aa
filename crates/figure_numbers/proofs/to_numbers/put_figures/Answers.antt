use mathlib.Core.Path.{◌≡◌}
use borrow.Author.Rules.{rules}
use lib.ListN.{length}
use Rattle.figure_numbers.proofs.Placing.{figures_put}
use Rattle.figure_numbers.proofs.to_numbers.put_figures.Goals as goal

pub put_counts-requires : goal.put_counts-requires
put_counts-requires c = let l : length c.args.figures.now.answers ≡ 24 = search rules in rw l (search rules)

pub put_counts-requires-2 : goal.put_counts-requires-2
put_counts-requires-2 c = let l : length c.args.figures.now.weekdays ≡ 7 = search rules in rw l (search rules)

pub put_counts-requires-3 : goal.put_counts-requires-3
put_counts-requires-3 c = let l : length c.args.figures.now.hours ≡ 24 = search rules in rw l (search rules)

pub returns : goal.returns
returns c = let a : length c.args.figures.now.answers ≡ 24 = search rules in
    let w : length c.args.figures.now.weekdays ≡ 7 = search rules in
    let h : length c.args.figures.now.hours ≡ 24 = search rules in
    figures_put c.args.figures.now a w h _ _ _ _ _ _ _ c.put_counts.ensures c.put_counts-2.ensures c.put_numbers.ensures c.put_counts-3.ensures c.put_numbers-2.ensures c.totals_of-totals.ensures
