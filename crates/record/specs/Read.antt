-- What the reader answers (02 (ii)).
use Rattle.std.specs.Prelude.{ℕ, cond, List, eqb, ltb, length, None, Option, Some, Err, Ok, Result}
use Rattle.question.specs.Question.{week_minutes}
use Rattle.record.specs.declared.Fields.{Fields}
use Rattle.record.specs.declared.RecordFault.{RecordFault}
use Rattle.record.specs.declared.RecordFault.TheVariants.{OtherVersion, UnknownNumber, BadMinute, WrongLength}
use Rattle.record.specs.Layout.{record_length, record_version, Bits, unpacked_bits, number_from, fields_of}
use Rattle.record.specs.Stored.{known}
use Rattle.record.specs.Fault.{fault_number}

-- "1 version, 2 answer number, 3 minute, in that order"; "the reader takes any bits" in line and auth
unfoldable pub read_bits : Bits → Result Fields RecordFault
read_bits b =
    cond (eqb b.version record_version)
    (cond (known b.number)
    (cond (ltb b.minute week_minutes) (Ok (fields_of b))
    (Err BadMinute))
    (Err UnknownNumber))
    (Err OtherVersion)

-- "4 not eight bytes, first of all"
unfoldable pub record_in : List ℕ → Result Fields RecordFault
record_in s = cond (eqb (length s) record_length) (read_bits (unpacked_bits (number_from s))) (Err WrongLength)

-- the number of what the reader answers, 0 for no refusal, and what is shown beside it
pub record Told : Type 0 where
  pub number : ℕ
  pub shown : Option Fields

-- "A reader must refuse .. and show nothing"
unfoldable pub record_told : Result Fields RecordFault → Told
record_told (Ok f) = record { number = 0; shown = Some f }
record_told (Err fault) = record { number = fault_number fault; shown = None }
