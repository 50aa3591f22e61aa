use mathlib.Core.Path.{◌≡◌}
use lib.ListN.{drop}
use Rattle.pattern.specs.Whole.{expansions_of}
use Rattle.matching.specs.Whole.{matches_some}
use Rattle.matching.proofs.matcher.matches_some.Given as goal

abbrev pub invariant-loop-k : goal.invariant-loop-k
invariant-loop-k l = matches_some (drop l.k (expansions_of l.syntax l.p)) l.name ≡ matches_some (expansions_of l.syntax l.p) l.name
