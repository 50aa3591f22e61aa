use Rattle.std.specs.Prelude.{Option}
use mathlib.Core.Path.{◌≡◌}
use mathlib.Core.List.{List}
use Prim.Native.Nat.{ℕ}
use lib.ListN.{length, drop}
use Rattle.text.specs.Contract.{Wrote}
use Rattle.console.proofs.PartLaws.{ended_parts}
use Rattle.console.proofs.question_line.put_parts.Given as goal

abbrev pub invariant-loop-b : goal.invariant-loop-b
invariant-loop-b l = (length l.out ≡ length l.initial.out) × ((new : List ℕ) (q : Option ℕ) → Wrote l.out new l.m (ended_parts l.c (drop l.b-index l.s)) q → Wrote l.initial.out new l.n (ended_parts l.c l.s) q)
