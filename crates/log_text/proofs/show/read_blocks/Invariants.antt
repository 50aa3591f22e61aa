use mathlib.Core.Path.{◌≡◌}
use mathlib.Core.List.{List}
use Prim.Native.Nat.{ℕ, ◌≤◌}
use lib.ListN.{length, take}
use Rattle.log_text.specs.Contract.{Reads}
use Rattle.log_text.proofs.show.read_blocks.Given as goal

abbrev pub invariant-loop : goal.invariant-loop
invariant-loop l = (l.run.begun ≤ length l.block) × (length l.block ≡ length l.initial.block) × (length l.out ≡ length l.initial.out) × (32 ≤ length l.out) × ((input : List ℕ) × Reads input (take l.run.begun l.block) l.run)
