use Prim.Native.Nat.{ℕ}
use Rattle.matching.specs.Contract.{PartsFrom}
use Rattle.matching.specs.declared.alternative.ByteContext.TheVariants.{Free}
use Rattle.matching.proofs.alternative.part_end.Given as goal

abbrev pub invariant-loop-i : goal.invariant-loop-i
invariant-loop-i l = (r : ℕ) → PartsFrom l.context l.a l.i r → PartsFrom Free l.a l.from r
