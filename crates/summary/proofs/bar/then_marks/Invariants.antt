use Rattle.std.specs.Prelude.{Option}
use mathlib.Core.List.{List}
use Prim.Native.Nat.{ℕ, ◌-◌}
use lib.ListN.{replicate}
use Rattle.output.specs.Contract.{WroteAfter}
use Rattle.summary.proofs.bar.then_marks.Given as goal

abbrev pub invariant-loop : goal.invariant-loop
invariant-loop l = (new : List ℕ) (q : Option ℕ) → WroteAfter l.last l.out new (replicate (l.marks - l.counter) 35) q → WroteAfter l.initial.last l.initial.out new (replicate l.marks 35) q
