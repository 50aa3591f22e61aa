-- The laws of the printed line of a record. Assumes nothing.
use Rattle.std.specs.Prelude.{Result, Ok, Err}
use mathlib.Core.Path.{◌≡◌}
use Prim.Native.Nat.{ℕ}
use Rattle.record.specs.declared.Fields.{Fields}
use Rattle.record.specs.declared.RecordFault.{RecordFault}
use Rattle.record.specs.Fault.{fault_number}
use Rattle.log_text.specs.Printed.{fields_text, refused_text, record_text}

-- what is shown of a record, or the refusal
pub record_shown : {r : Result Fields RecordFault} {f : Fields} → r ≡ Ok f → record_text r ≡ fields_text f
unfolding record_text
record_shown e = rw e

pub record_refused : {r : Result Fields RecordFault} {fault : RecordFault} {n : ℕ} → r ≡ Err fault → n ≡ fault_number fault → record_text r ≡ refused_text n
unfolding record_text
record_refused e k = rw (e, k)
