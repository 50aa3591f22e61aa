-- The line printed for a question line, from a table (01: "A small program prints one line for each question line").
use Rattle.question.specs.declared.Age.{Age}
use Rattle.std.specs.Prelude.{List, [], ℕ, replicate, None, Option, Some}
use Rattle.question.specs.declared.WeekMinute.{WeekMinute}
use Rattle.answer.specs.declared.Answer.TheVariants.{MalformedQuestion}
use Rattle.answer.specs.Answer.{least_buffer, Outcome, result, Told, told, at_place, told_by}
use Rattle.answer.specs.Meaning.{Asked, answer_of}
use Rattle.record.specs.Decision.{fields_by, record_bytes}
use Rattle.console.specs.QuestionLine.{asked_in}
use Rattle.console.specs.Printed.{printed}

-- "a line not of this form, `refused 10 0`"; else what the table answers, with a new buffer
abbrev pub told_for : List ℕ → Option Asked → Told
told_for table None = told 10 (at_place 0)
told_for table (Some asked) = told_by (answer_of table asked (replicate least_buffer 0))

-- the outcome for what a line asks, with this in the buffer beforehand: a line not of this form is 10
abbrev pub outcome_for : List ℕ → Option Asked → List ℕ → Outcome
outcome_for table None b = result MalformedQuestion b
outcome_for table (Some asked) b = answer_of table asked b

-- the minute that a line asks with, and the age: 0 and never for a line not of this form
abbrev pub minute_for : Option Asked → WeekMinute
minute_for None = record { 0 = 0 }
minute_for (Some asked) = asked.minute

abbrev pub age_for : Option Asked → (Option Age)
age_for None = None
age_for (Some asked) = asked.age

-- what is printed for a line without its newline
unfoldable pub response : List ℕ → List ℕ → List ℕ
unfolding printed asked_in
response table line = printed (told_for table (asked_in line))

-- the record of what the table answers, with a new buffer; a line not of the form has none
abbrev pub logged_for : List ℕ → Option Asked → List ℕ
logged_for table None = []
logged_for table (Some asked) = record_bytes (fields_by (answer_of table asked (replicate least_buffer 0)) asked.minute asked.age)

-- what a log gets for a line without its newline (02 (ii)): a record, which the answer 10 alone has not
unfoldable pub logged : List ℕ → List ℕ → List ℕ
unfolding asked_in
logged table line = logged_for table (asked_in line)
