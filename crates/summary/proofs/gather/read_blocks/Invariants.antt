use mathlib.Core.List.{List}
use Prim.Native.Nat.{ℕ}
use Rattle.summary.specs.Contract.{Gathered}
use Rattle.summary.proofs.gather.read_blocks.Given as goal

abbrev pub invariant-loop : goal.invariant-loop
invariant-loop l = (bytes : List ℕ) × Gathered bytes l.reading
