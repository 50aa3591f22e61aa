-- The record of what the call answered (02 (ii): "eight bytes per decision").
use Rattle.question.specs.declared.Age.{Age}
use Rattle.std.specs.Prelude.{ℕ, Bool, false, cond, List, [], ltb, None, Option, Some, Err, Ok, Result}
use Rattle.question.specs.declared.WeekMinute.{WeekMinute}
use Rattle.answer.specs.Answer.{Outcome, told_by, Beside, granted, at_line, at_place, deciding_line}
use Rattle.record.specs.declared.Fields.{Fields}
use Rattle.record.specs.declared.RecordFault.{RecordFault}
use Rattle.record.specs.declared.Unrecorded.{Unrecorded}
use Rattle.record.specs.declared.Unrecorded.TheVariants.{Writer, LongLine}
use Rattle.record.specs.Layout.{record_length, packed}
use Rattle.record.specs.Stored.{stored_of}
use Rattle.record.specs.Fault.{fault_number}
use Rattle.record.specs.Write.{written_of}

-- the effective auth, which is told beside 0 and 1 only
abbrev pub auth_beside : Beside → Bool
auth_beside (granted g) = g.auth
auth_beside (at_line l) = false
auth_beside (at_place p) = false

-- what the writer is given for an outcome: its number, its deciding line and its auth, with the minute and the age of the question
unfoldable pub fields_by : Outcome → WeekMinute → (Option Age) → Fields
fields_by o minute age = record { number = (told_by o).number; line = deciding_line o; minute = minute; auth = auth_beside (told_by o).beside; age = age }

-- "line 16 (given in 16 bits)": the lines that are below it
abbrev pub line_limit : ℕ
line_limit = 65536

-- what the writer answers, as an answer where a decision is recorded
abbrev pub by_writer : Result Unit RecordFault → Result Unit Unrecorded
by_writer (Ok done) = Ok done
by_writer (Err fault) = Err (Writer fault)

-- a line that 16 bits do not hold has an answer of its own; else the writer's
unfoldable pub recorded_of : (size : ℕ) → Fields → Result Unit Unrecorded
recorded_of size f = cond (ltb f.line line_limit) (by_writer (written_of size f)) (Err LongLine)

-- the lent bytes afterwards
unfoldable pub bytes_recorded : Result Unit Unrecorded → List ℕ → Fields → List ℕ
bytes_recorded (Ok done) old f = packed (stored_of f)
bytes_recorded (Err fault) old f = old

-- the record that a log gets for what the writer is given: eight bytes, or none where it is refused
unfoldable pub record_bytes : Fields → List ℕ
record_bytes f = bytes_recorded (recorded_of record_length f) [] f

-- the writer's number; the papers give a line that is too long none
unfoldable pub recorded_number : Result Unit Unrecorded → Option ℕ
recorded_number (Ok done) = Some 0
recorded_number (Err (Writer fault)) = Some (fault_number fault)
recorded_number (Err LongLine) = None
