use mathlib.Core.Path.{◌≡◌}
use native.Mathlib.Omega.{arith}
use lib.ListN.{length}
use Rattle.summary.specs.Summary.{answers_text}
use Rattle.output.proofs.BehindLaws.{after_then}
use borrow.Author.Rules.{rules}
use Rattle.summary.proofs.lines.then_answers.Goals as goal

pub slice_bounds-then_counts-end-2 : goal.slice_bounds-then_counts-end-2
slice_bounds-then_counts-end-2 c = let l : length c.args.figures.answers ≡ 24 = search rules in omega arith

pub slice_bounds-then_counts-end-4 : goal.slice_bounds-then_counts-end-4
slice_bounds-then_counts-end-4 c = let l : length c.args.figures.answers ≡ 24 = search rules in omega arith

pub returns : goal.returns
unfolding answers_text
returns c = after_then c.then_counts-decisions.ensures c.then_counts.ensures
