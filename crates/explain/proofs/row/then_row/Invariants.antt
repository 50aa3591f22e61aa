use Rattle.std.specs.Prelude.{Option}
use mathlib.Core.Path.{◌≡◌}
use mathlib.Core.List.{List, map}
use Prim.Native.Nat.{ℕ}
use lib.ListN.{length, drop}
use Rattle.output.specs.Contract.{WroteAfter}
use Rattle.explain.specs.Explained.{shown_in}
use Rattle.explain.proofs.row.then_row.Given as goal

abbrev pub invariant-loop-b : goal.invariant-loop-b
invariant-loop-b l = (length l.out ≡ length l.initial.out) × ((new : List ℕ) (q : Option ℕ) → WroteAfter l.last l.out new (map (shown_in l.row) (drop l.b-index l.s)) q → WroteAfter l.initial.last l.initial.out new (map (shown_in l.row) l.s) q)
