use Rattle.std.specs.Prelude.{Result}
use mathlib.Core.List.{List}
use mathlib.Core.Bool.{true}
use mathlib.Core.Path.{◌≡◌}
use Prim.Native.Nat.{ℕ, ◌-◌, ◌≤◌, ◌<◌}
use lib.ListN.{length, drop, get_or}
use Rattle.fault.specs.declared.Cause.{Cause}
use Rattle.variables.specs.Contract.{scope_in, Writes}
use Rattle.variables.specs.Substitute.{refers}
use Rattle.variables.proofs.field.field_text.Given as goal

abbrev pub invariant-loop-run : goal.invariant-loop-run
invariant-loop-run l = (l.run.at ≤ length l.field) × (l.run.count ≤ 1025) × (length l.text ≡ 1024) × (l.run.at < length l.field → refers l.run.quoting (get_or l.field l.run.at 0) ≡ true) × ((last : List ℕ) (a : (Result ℕ Cause)) → Writes (scope_in l.caller l.host l.bytes l.sizes l.count) l.run.quoting (drop l.run.at l.field) l.text last l.run.count a → Writes (scope_in l.caller l.host l.bytes l.sizes l.count) l.initial.run.quoting (drop l.initial.run.at l.field) l.initial.text last l.initial.run.count a)

abbrev pub decreases-loop-run : goal.decreases-loop-run
decreases-loop-run l = length l.field - l.run.at
