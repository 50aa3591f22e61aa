-- What the calls for C on log records give (02 (ii), include/supertab.h).
use Rattle.question.specs.declared.Age.{Age}
use Rattle.std.specs.Prelude.{ℕ, Bool, cond, List, [], ◌∷◌, ◌++◌, leb, ℤ, pos, length, drop, None, Option, Some}
use Rattle.record.specs.declared.Fields.{Fields}
use Rattle.record.specs.Write.{written_of, bytes_after, written_number}
use Rattle.record.specs.Read.{record_in, Told, record_told}
use Rattle.supertab_c.specs.Report.{bit}
use Rattle.supertab_c.specs.Call.{minute_of, last_of, short_report}

-- ---- writing
-- the fields that a caller in C gives
unfoldable pub given_by : (number line minute : ℕ) (auth authenticated : Bool) (age : ℤ) → Fields
given_by number line minute auth authenticated age = record { number = number; line = line; minute = minute_of minute; auth = auth; age = last_of authenticated age }

-- the result of the call and the lent bytes
pub record Wrote : Type 0 where
  pub number : ℕ
  pub bytes : List ℕ

-- this result, with these
abbrev pub wrote_record : ℕ → List ℕ → Wrote
wrote_record n s = record { number = n; bytes = s }

-- the writer's number, and the bytes that it leaves
unfoldable pub write_call : Fields → List ℕ → Wrote
write_call f old = wrote_record (written_number (written_of (length old) f)) (bytes_after (written_of (length old) f) old f)

-- ---- reading
-- how many numbers tell the fields
abbrev pub fields_length : ℕ
fields_length = 6

-- 0 where the user had never given the password
unfoldable pub authenticated_of : (Option Age) → ℤ
authenticated_of None = pos 0
authenticated_of (Some a) = pos 1

-- the minutes since then
unfoldable pub age_of : (Option Age) → ℤ
age_of None = pos 0
age_of (Some a) = a.0

-- the fields as numbers
unfoldable pub field_numbers : Fields → List ℤ
field_numbers f = pos f.number ∷ pos f.line ∷ pos f.minute.0 ∷ bit f.auth ∷ authenticated_of f.age ∷ age_of f.age ∷ []

-- the result of the call and the lent numbers
pub record Numbers : Type 0 where
  pub number : ℕ
  pub fields : List ℤ

-- this result, with these
abbrev pub read_numbers : ℕ → List ℤ → Numbers
read_numbers n s = record { number = n; fields = s }

-- what is shown stands at the front of the lent numbers, whose later ones stay; a refusal shows nothing
abbrev pub numbers_after : Option Fields → List ℤ → List ℤ
numbers_after (Some f) old = field_numbers f ++ drop fields_length old
numbers_after None old = old

-- what the reader tells
unfoldable pub tells_record : Told → List ℤ → Numbers
tells_record t old = read_numbers t.number (numbers_after t.shown old)

-- 255 first, and then nothing is written; else what the reader tells
unfoldable pub read_call : List ℕ → List ℤ → Numbers
read_call s old = cond (leb fields_length (length old)) (tells_record (record_told (record_in s)) old) (read_numbers short_report old)
