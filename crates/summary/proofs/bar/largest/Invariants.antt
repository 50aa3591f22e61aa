use mathlib.Core.Path.{◌≡◌}
use Prim.Native.Nat.{max}
use lib.ListN.{drop}
use Rattle.summary.specs.Bar.{largest_of}
use Rattle.summary.proofs.bar.largest.Given as goal

abbrev pub invariant-loop-n : goal.invariant-loop-n
invariant-loop-n l = max l.most (largest_of (drop l.n-index l.counts)) ≡ largest_of l.counts
