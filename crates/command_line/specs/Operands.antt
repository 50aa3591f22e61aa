-- What stands behind the options: names and a question. `ended` says that `--` ended the options, n is the number of the first word.
use Rattle.std.specs.Prelude.{ℕ, ◌+◌, Bool, cond, not, ◌&&◌, List, [], ◌∷◌, Option, Some, None, Result, Ok, Err}
use Rattle.command_line.specs.Word.{is_word, is_known}
use Rattle.command_line.specs.declared.word.Word.{Word}
use Rattle.command_line.specs.declared.word.Word.TheVariants.{Dash}
use Rattle.command_line.specs.declared.request.Arguments.{Arguments}
use Rattle.command_line.specs.declared.request.Misuse.{Misuse}
use Rattle.command_line.specs.declared.request.Misuse.TheVariants.{NoTable, NoSuFile, NoLog, TableFromInput, SuFileFromInput, OptionBehind, Surplus}
use Rattle.command_line.specs.declared.request.Request.{Request}
use Rattle.command_line.specs.declared.request.Request.TheVariants.{Answer, AnswerSu, ReadLog, Figures, Check, CheckSu, Help, Version}
use Rattle.command_line.specs.declared.request.Task.{Task}
use Rattle.command_line.specs.declared.request.Task.TheVariants.{AnswerFromTable, AnswerFromSuFile, PrintRecords, PrintFigures, CheckTable, CheckSuFile, PrintHelp, PrintVersion}

abbrev pub arguments : (file : ℕ) (log question : Option ℕ) → Arguments
arguments f l q = record { file = f; log = l; question = q }

-- an option that is known stands behind a name; behind `--` no word is an option
unfoldable pub is_behind : (ended : Bool) → Word → Bool
is_behind ended w = is_known w && not ended

-- a word that nothing asks for
unfoldable pub extra : (ended : Bool) → ℕ → Word → Misuse
unfolding is_behind
extra ended n w = cond (is_behind ended w) (OptionBehind n) (Surplus n)

-- the request, with no word more
unfoldable pub last : Request → (ended : Bool) → ℕ → List Word → Result Request Misuse
unfolding extra
last r ended n [] = Ok r
last r ended n (w ∷ ws) = Err (extra ended n w)

-- the request that needs one name
unfoldable pub named : Request → (missing : Misuse) → (ended : Bool) → ℕ → List Word → Result Request Misuse
unfolding last
named r missing ended n [] = Err missing
named r missing ended n (w ∷ ws) = last r ended (n + 1) ws

-- `-` stands for standard input, but not behind `--`
unfoldable pub is_input : (ended : Bool) → Word → Bool
is_input ended w = is_word Dash w && not ended

-- the same, where `-` is no name: standard input has the questions
unfoldable pub named_file : Request → (missing input : Misuse) → (ended : Bool) → ℕ → List Word → Result Request Misuse
unfolding named is_input
named_file r missing input ended n [] = Err missing
named_file r missing input ended n (w ∷ ws) = cond (is_input ended w) (Err input) (last r ended (n + 1) ws)

-- a check of this file, perhaps with a question: the next word, whatever it begins with, if it is no known option
unfoldable pub questioned : (file : ℕ) → (ended : Bool) → ℕ → List Word → Result Request Misuse
unfolding is_behind last
questioned file ended n [] = Ok (Check (arguments file None None))
questioned file ended n (w ∷ ws) = cond (is_behind ended w) (Err (OptionBehind n)) (last (Check (arguments file None (Some n))) ended (n + 1) ws)

-- a check of a table
unfoldable pub table_checked : (ended : Bool) → ℕ → List Word → Result Request Misuse
unfolding questioned
table_checked ended n [] = Err NoTable
table_checked ended n (w ∷ ws) = questioned n ended (n + 1) ws

-- the request of a task
unfoldable pub for_task : Task → (log : Option ℕ) → (ended : Bool) → ℕ → List Word → Result Request Misuse
unfolding last named named_file table_checked
for_task AnswerFromTable log ended n ws = named_file (Answer (arguments n log None)) NoTable TableFromInput ended n ws
for_task AnswerFromSuFile log ended n ws = named_file (AnswerSu (arguments n None None)) NoSuFile SuFileFromInput ended n ws
for_task PrintRecords log ended n ws = named (ReadLog (arguments n None None)) NoLog ended n ws
for_task PrintFigures log ended n ws = named (Figures (arguments n None None)) NoLog ended n ws
for_task CheckTable log ended n ws = table_checked ended n ws
for_task CheckSuFile log ended n ws = named (CheckSu (arguments n None None)) NoSuFile ended n ws
for_task PrintHelp log ended n ws = last Help ended n ws
for_task PrintVersion log ended n ws = last Version ended n ws
