-- What only contracts and laws cite: bytes, what the writer leaves, and what lent bytes get.
use Rattle.question.specs.declared.Age.{Age}
use Rattle.std.specs.List.{list_all}
use Rattle.std.specs.Prelude.{ℕ, ◌≡◌, Bool, cond, List, [], eqb, ltb, length, None, Option, Some, Result}
use Rattle.question.specs.declared.WeekMinute.{WeekMinute}
use Rattle.answer.specs.Answer.{Outcome}
use Rattle.record.specs.declared.Fields.{Fields}
use Rattle.record.specs.declared.RecordFault.{RecordFault}
use Rattle.record.specs.declared.Unrecorded.{Unrecorded}
use Rattle.record.specs.Layout.{record_length}
use Rattle.record.specs.Write.{written_of, bytes_after}
use Rattle.record.specs.Decision.{fields_by, recorded_of, bytes_recorded, recorded_number}

-- every element is a byte, as each element of a slice of bytes is
unfoldable pub all_bytes : List ℕ → Bool
all_bytes s = list_all (λ b. ltb b 256) s

-- fields were given to the writer: its answer, and the bytes
pub record Writes (f : Fields) (old new : List ℕ) (r : Result Unit RecordFault) : Type 0 where
  pub answer : r ≡ written_of (length old) f
  pub bytes : new ≡ bytes_after r old f

-- an outcome was given to be recorded: the answer, and the bytes
pub record Records (o : Outcome) (minute : WeekMinute) (age : (Option Age)) (old new : List ℕ) (r : Result Unit Unrecorded) : Type 0 where
  pub answer : r ≡ recorded_of (length old) (fields_by o minute age)
  pub bytes : new ≡ bytes_recorded r old (fields_by o minute age)

-- what is written into lent bytes: nothing, where they are not eight
unfoldable pub record_within : (size : ℕ) → List ℕ → List ℕ
record_within size r = cond (eqb size record_length) r []

-- eight bytes were written where there was no refusal
abbrev pub bytes_numbered : Option ℕ → ℕ
bytes_numbered (Some n) = cond (eqb n 0) record_length 0
bytes_numbered None = 0

-- how many bytes were written
unfoldable pub bytes_written : Result Unit Unrecorded → ℕ
unfolding recorded_number
bytes_written r = bytes_numbered (recorded_number r)
