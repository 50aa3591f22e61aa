-- What is stored of what the writer is given (02 (ii)).
use Rattle.question.specs.declared.Age.{Age}
use Rattle.std.specs.Prelude.{ℕ, min, Bool, cond, ◌&&◌, ◌||◌, leb, Option}
use Rattle.text.specs.Class.{within}
use Rattle.record.specs.declared.Fields.{Fields}
use Rattle.record.specs.Layout.{is_below, size_of, age_from}

-- "Known numbers are 0 to 5 and 11 to 23."
unfoldable pub known : ℕ → Bool
known n = leb n 5 || within 11 23 n

-- "The writer stores auth 0 for all answers but 0 and 1"
unfoldable pub keeps_auth : ℕ → Bool
keeps_auth n = leb n 1

-- "line 0 for 2 and refusals": the line is kept for 0, 1, 3, 4, 5
unfoldable pub keeps_line : ℕ → Bool
keeps_line n = leb n 1 || within 3 5 n

-- the largest size that 24 bits hold
abbrev pub largest_size : ℕ
largest_size = 16777215

-- "Larger sizes are stored as 16,777,215."
unfoldable pub stored_age : (Option Age) → (Option Age)
stored_age age = age_from (is_below age) (min (size_of age) largest_size)

-- the fields that are stored of those given
unfoldable pub stored_of : Fields → Fields
stored_of f = record {
  number = f.number;
  line = cond (keeps_line f.number) f.line 0;
  minute = f.minute;
  auth = keeps_auth f.number && f.auth;
  age = stored_age f.age;
}
