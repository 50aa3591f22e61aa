-- What `field_text` tells of a field: its text at the beginning of the buffer, or its fault. Assumes nothing.
use Rattle.std.specs.Prelude.{Err, Ok, Result}
use mathlib.Core.Path.{◌≡◌, ap, ◌∙◌}
use mathlib.Core.List.{List}
use Prim.Native.Nat.{ℕ, ◌≤◌}
use native.Mathlib.Omega.{arith}
use lib.ListN.{length, take, length-take}
use Rattle.text.specs.declared.quote.Quoting.TheVariants.{Outside}
use Rattle.text.proofs.Buffers.{laid_length}
use Rattle.fault.specs.declared.Cause.{Cause}
use Rattle.variables.specs.Scope.{Scope}
use Rattle.variables.specs.Substitute.{field_text}
use Rattle.variables.specs.Contract.{up_to_bad, Substitutes}

module _ {sc : Scope} {f old new : List ℕ} {r : (Result ℕ Cause)} (w : Substitutes sc f old new r) where
  -- the buffer keeps its length
  pub text_kept : length new ≡ length old
  text_kept = ap length w.buffer ∙ laid_length old 0 (up_to_bad sc Outside 0 f)

  -- a fault is the one of the field's text
  pub text_fault : {c : Cause} → r ≡ Err c → Err c ≡ field_text sc f
  text_fault e = rw e at w.reading

  module _ {n : ℕ} (e : r ≡ Ok n) where
    -- the first n bytes of the buffer are the field's text
    pub text_value : Ok (take n new) ≡ field_text sc f
    text_value = rw e at w.reading

    pub text_fits : n ≤ 1024
    text_fits = rw e at w.fits

    -- the text is no longer than a field
    pub text_short : length (take n new) ≤ 1024
    text_short = omega (arith, length-take n new, text_fits)

    -- it lies in the buffer
    pub text_room : length old ≡ 1024 → n ≤ length new
    text_room l = omega (arith, text_kept, text_fits)

    -- the buffer holds all n bytes
    pub text_length : length new ≡ 1024 → n ≡ length (take n new)
    text_length l = omega (arith, length-take n new, text_fits)
