-- What the call for C gives: its number, and what the buffer and the report hold after it (include/supertab.h).
use Rattle.question.specs.declared.Age.{Age}
use Rattle.std.specs.Prelude.{ℕ, min, Bool, cond, List, ◌++◌, leb, ℤ, length, drop, None, Option, Some}
use Rattle.question.specs.Question.{week_minutes}
use Rattle.question.specs.declared.WeekMinute.{WeekMinute}
use Rattle.answer.specs.Answer.{Outcome, told_by}
use Rattle.answer.specs.Meaning.{Asked, answer_of}
use Rattle.supertab_c.specs.Report.{report_length, report_of}

-- a minute past the week's end is the first such one: with it, too, the question is bad
unfoldable pub minute_of : ℕ → WeekMinute
minute_of minute = record { 0 = min minute week_minutes }

-- the age is not looked at where the user never gave the password
unfoldable pub last_of : Bool → ℤ → (Option Age)
last_of authenticated age = cond authenticated (Some (record { 0 = age })) None

-- the parts of a question, by what a caller in C gives
unfoldable pub asked_by : (command user groups host : List ℕ) (minute : ℕ) (authenticated : Bool) (age : ℤ) (args : List ℕ) → Asked
asked_by command user groups host minute authenticated age args = record { command = command; user = user; groups = groups; host = host; minute = minute_of minute; age = last_of authenticated age; args = args }

-- the result of the call, the buffer and the report
pub record Call : Type 0 where
  pub number : ℕ
  pub buffer : List ℕ
  pub report : List ℤ

-- this result, with these two
abbrev pub called : ℕ → List ℕ → List ℤ → Call
called n b r = record { number = n; buffer = b; report = r }

-- the result where the report is too short
abbrev pub short_report : ℕ
short_report = 255

-- an outcome as the call tells it; the report's later numbers stay
abbrev pub tells : Outcome → List ℤ → Call
tells o r = called (told_by o).number o.buffer (report_of o.answer ++ drop report_length r)

-- 255 first, and then nothing is written; else the answer to the question from the table
unfoldable pub call_of : (table : List ℕ) → Asked → (buffer : List ℕ) (report : List ℤ) → Call
call_of t a b r = cond (leb report_length (length r)) (tells (answer_of t a b) r) (called short_report b r)
