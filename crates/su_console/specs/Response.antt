-- The line printed for a question line, from a su file.
use Rattle.std.specs.Prelude.{List, ℕ, None, Option, Some}
use Rattle.suauth.specs.declared.SuAnswer.{SuAnswer}
use Rattle.suauth.specs.declared.SuAnswer.TheVariants.{MalformedQuestion}
use Rattle.suauth.specs.Answer.{told_of}
use Rattle.suauth.specs.Meaning.{Asked, answer_of}
use Rattle.su_console.specs.QuestionLine.{su_asked_in}
use Rattle.su_console.specs.Printed.{su_printed}

-- a line not of the form is 10; else what the file answers
abbrev pub su_answer_for : List ℕ → Option Asked → SuAnswer
su_answer_for file None = MalformedQuestion
su_answer_for file (Some asked) = answer_of file asked

-- what is printed for a line without its newline
unfoldable pub su_response : List ℕ → List ℕ → List ℕ
unfolding su_printed told_of su_asked_in
su_response file line = su_printed (told_of (su_answer_for file (su_asked_in line)))
