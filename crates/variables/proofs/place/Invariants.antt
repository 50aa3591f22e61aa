use mathlib.Core.Path.{◌≡◌}
use Prim.Native.Nat.{◌-◌}
use Rattle.variables.specs.Contract.{defined_at, places_from, definition_at, definitions_in}
use Rattle.variables.proofs.place.Given as goal

abbrev pub invariant-loop-i : goal.invariant-loop-i
invariant-loop-i l = defined_at l.i l.name (places_from (definition_at l.bytes l.sizes) (l.i-end - l.i) l.i) ≡ defined_at 0 l.name (definitions_in l.bytes l.sizes l.count)
