use Rattle.std.specs.Prelude.{Option}
use mathlib.Core.List.{List}
use Prim.Native.Nat.{ℕ, ◌≤◌}
use lib.ListN.{length, drop}
use Rattle.text.specs.Contract.{Wrote}
use Rattle.entry.specs.Path.{starred}
use Rattle.entry.proofs.path.put_path.Given as goal

-- whoever writes the rest from here has written the whole
abbrev pub invariant-loop-b : goal.invariant-loop-b
invariant-loop-b l = (l.m ≤ length l.initial.out) × ((new : List ℕ) (q : Option ℕ) → Wrote l.out new l.m (starred l.command (drop l.b-index l.path)) q → Wrote l.initial.out new 0 (starred l.command l.path) q)
