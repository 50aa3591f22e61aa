use Rattle.std.specs.Prelude.{Result}
use Rattle.fault.specs.declared.Cause.{Cause}
use mathlib.Core.List.{List}
use mathlib.Core.Path.{◌≡◌}
use Prim.Native.Nat.{ℕ, ◌≤◌}
use lib.ListN.{length, drop}
use Rattle.variables.specs.Contract.{Writes}
use Rattle.variables.specs.Scope.{Scope}
use Rattle.variables.proofs.field.text_run.Given as goal

abbrev pub invariant-loop-i : goal.invariant-loop-i
invariant-loop-i l = (l.m ≤ 1025) × (length l.out ≡ 1024) × (length l.initial.out ≡ 1024) × ((s : Scope) (last : List ℕ) (a : (Result ℕ Cause)) → Writes s l.q (drop l.i l.field) l.out last l.m a → Writes s l.initial.q (drop l.at l.field) l.initial.out last l.n a)
