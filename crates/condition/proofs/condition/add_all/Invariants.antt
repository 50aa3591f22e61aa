use mathlib.Core.Bool.{false}
use mathlib.Core.Path.{◌≡◌}
use Prim.Native.Nat.{◌-◌, ◌≤◌}
use lib.ListN.{length, drop}
use Rattle.pattern.specs.Tree.{list_of}
use Rattle.pattern.specs.Whole.{expansions_of}
use Rattle.pattern.specs.Contract.{expansions_in, Few}
use Rattle.condition.specs.Contract.{added_with}
use Rattle.condition.proofs.condition.add_all.Given as goal

abbrev pub invariant-loop-found : goal.invariant-loop-found
invariant-loop-found l = (l.i ≤ length l.p) × Few (list_of l.syntax false (drop l.i l.p)) × (added_with l.judging l.user l.groups l.host l.minute l.negated l.asks l.r (expansions_in (list_of l.syntax false (drop l.i l.p))) ≡ added_with l.judging l.user l.groups l.host l.minute l.negated l.asks l.initial.r (expansions_of l.syntax l.p))

abbrev pub decreases-loop-found : goal.decreases-loop-found
decreases-loop-found l = length l.p - l.i
