use Rattle.std.proofs.Common.{◌≡◌, ℕ, List, length}
use Rattle.record_log.specs.Contract.{Looked}
use Rattle.record_log.proofs.opening.look_through.Given as goal

abbrev pub invariant-loop : goal.invariant-loop
invariant-loop l = (length l.block ≡ length l.initial.block) × ((bytes : List ℕ) × Looked bytes l.looking)
