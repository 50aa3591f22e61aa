use mathlib.Core.Path.{◌≡◌, sym, ap}
use Prim.Native.Nat.{ℕ}
use native.Mathlib.Omega.{arith}
use lib.ListN.{length}
use Rattle.summary.specs.Summary.{counts_text, weekday_names, days_text}
use Rattle.output.proofs.BehindLaws.{after_as}
use borrow.Author.Rules.{rules}
use Rattle.summary.proofs.lines.then_days.Goals as goal

pub then_counts-requires : goal.then_counts-requires
then_counts-requires c = let l : length c.args.figures.weekdays ≡ 7 = search rules in omega arith

pub returns : goal.returns
unfolding days_text
returns c = after_as c.then_counts.ensures (ap (λ (m : ℕ). counts_text weekday_names c.args.figures.weekdays m) (sym c.largest_shown-most.ensures))
