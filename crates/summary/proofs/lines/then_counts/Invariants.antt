use Rattle.std.specs.Prelude.{Option}
use mathlib.Core.List.{List}
use Prim.Native.Nat.{ℕ, ◌*◌}
use lib.ListN.{drop}
use Rattle.output.specs.Contract.{WroteAfter}
use Rattle.summary.specs.Summary.{counts_text}
use Rattle.summary.proofs.lines.then_counts.Given as goal

abbrev pub invariant-loop-i : goal.invariant-loop-i
invariant-loop-i l = (new : List ℕ) (q : Option ℕ) → WroteAfter l.last l.out new (counts_text (drop (l.i * 20) l.names) (drop l.i l.counts) l.most) q → WroteAfter l.initial.last l.initial.out new (counts_text l.names l.counts l.most) q
