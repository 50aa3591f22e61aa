-- What the writer answers and writes (02 (ii)).
use Rattle.std.specs.Prelude.{ℕ, cond, List, eqb, ltb, Err, Ok, Result}
use Rattle.question.specs.Question.{week_minutes}
use Rattle.record.specs.declared.Fields.{Fields}
use Rattle.record.specs.declared.RecordFault.{RecordFault}
use Rattle.record.specs.declared.RecordFault.TheVariants.{UnknownNumber, BadMinute, WrongLength}
use Rattle.record.specs.Layout.{record_length, packed}
use Rattle.record.specs.Stored.{known, stored_of}
use Rattle.record.specs.Fault.{fault_number}

-- "4 not eight bytes, first of all", then "2 answer number, 3 minute"; the size is that of the lent bytes
unfoldable pub written_of : (size : ℕ) → Fields → Result Unit RecordFault
written_of size f =
    cond (eqb size record_length)
    (cond (known f.number)
    (cond (ltb f.minute.0 week_minutes) (Ok tt)
    (Err BadMinute))
    (Err UnknownNumber))
    (Err WrongLength)

-- the lent bytes afterwards: the record of the stored fields, or as they were where "the writer refuses .. and then writes nothing"
unfoldable pub bytes_after : Result Unit RecordFault → List ℕ → Fields → List ℕ
bytes_after (Ok done) old f = packed (stored_of f)
bytes_after (Err fault) old f = old

-- "Refusals, own list"; 0 is none
unfoldable pub written_number : Result Unit RecordFault → ℕ
written_number (Ok done) = 0
written_number (Err fault) = fault_number fault
