-- What the arguments ask for: the options that stand first say the task, and what stands behind them is what it is done with.
use Rattle.std.specs.Prelude.{ℕ, ◌+◌, ◌-◌, Bool, true, false, cond, List, [], ◌∷◌, length, take, drop, get_or, position, option_map, Option, Err, Ok, Result}
use Rattle.command_line.specs.Word.{is_word, is_given}
use Rattle.command_line.specs.Options.{option_count, wrong_among, file_missing}
use Rattle.command_line.specs.Operands.{for_task}
use Rattle.command_line.specs.declared.word.Word.{Word}
use Rattle.command_line.specs.declared.word.Word.TheVariants.{Operand, EndOfOptions, Check, Su, Log, ReadLog, Figures, Help, Version}
use Rattle.command_line.specs.declared.request.Misuse.{Misuse}
use Rattle.command_line.specs.declared.request.Request.{Request}
use Rattle.command_line.specs.declared.request.Task.{Task}
use Rattle.command_line.specs.declared.request.Task.TheVariants.{AnswerFromTable, AnswerFromSuFile, PrintRecords, PrintFigures, CheckTable, CheckSuFile, PrintHelp, PrintVersion}

-- the number of the argument that is the file of this option, which stands behind it; the first word is argument 1
unfoldable pub file_number : Word → (options : List Word) → Option ℕ
file_number w options = option_map (λ i. i + 2) (position (is_word w) options)

-- what is done with a table or a su file
unfoldable pub file_task : (options : List Word) → Task
file_task options = cond (is_given Su options) (cond (is_given Check options) CheckSuFile AnswerFromSuFile) (cond (is_given Check options) CheckTable AnswerFromTable)

-- the same, or what is printed of a log
unfoldable pub log_task : (options : List Word) → Task
unfolding file_task
log_task options = cond (is_given ReadLog options) PrintRecords (cond (is_given Figures options) PrintFigures (file_task options))

-- what the options ask for, of which no two stand together that may not
unfoldable pub task_of : (options : List Word) → Task
unfolding log_task
task_of options = cond (is_given Help options) PrintHelp (cond (is_given Version options) PrintVersion (log_task options))

-- the first of the words is this one
abbrev pub first_is : Word → List Word → Bool
first_is w [] = false
first_is w (x ∷ ws) = is_word w x

-- what the options ask for, done with the words behind them, the first of which has number n; `--` may end the options
unfoldable pub use_of : (options : List Word) → ℕ → List Word → Result Request Misuse
unfolding task_of file_number for_task
use_of options n rest =
    cond (first_is EndOfOptions rest)
    (for_task (task_of options) (file_number Log options) true (n + 1) (drop 1 rest))
    (for_task (task_of options) (file_number Log options) false n rest)

-- the request, if nothing is wrong
abbrev pub if_good : Result Unit Misuse → Result Request Misuse → Result Request Misuse
if_good (Ok tt) r = r
if_good (Err m) r = Err m

-- the last of the words, an operand where there is none
abbrev pub last_word : List Word → Word
last_word ws = get_or ws (length ws - 1) Operand

-- the request of options and of the words behind them
unfoldable pub request_with : (options rest : List Word) → Result Request Misuse
unfolding wrong_among file_missing use_of
request_with options rest =
    if_good (wrong_among [] options)
    (if_good (file_missing (last_word options) (length options + 1) rest) (use_of options (length options + 1) rest))

-- the request of the words behind the program's name
unfoldable pub request_of : List Word → Result Request Misuse
unfolding option_count request_with
request_of words = request_with (take (option_count Operand words) words) (drop (option_count Operand words) words)
