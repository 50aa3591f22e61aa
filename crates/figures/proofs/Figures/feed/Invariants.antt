use mathlib.Core.Path.{◌≡◌}
use Prim.Native.Nat.{◌≤◌, ◌-◌, ◌*◌, ◌/◌}
use lib.ListN.{length, drop}
use Rattle.figures.specs.Figures.{records_in}
use Rattle.figures.specs.Contract.{with_all}
use Rattle.figures.proofs.Figures.feed.Given as goal

abbrev pub invariant-loop-k : goal.invariant-loop-k
invariant-loop-k l = (l.records ≡ length l.batch / 8) × (l.taken ≤ l.records) × (with_all l.self (records_in (l.taken - l.k) (drop (l.k * 8) l.batch)) ≡ with_all l.initial.self (records_in l.taken l.batch))
