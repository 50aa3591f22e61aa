-- What the answers of the code say about the lines: cited by contracts and proofs only.
use Rattle.question.specs.declared.Age.{Age}
use Rattle.std.specs.Prelude.{ℕ, ◌≤◌, ◌≡◌, Bool, true, false, not, cond, List, length, take, drop, Err, None, Ok, Option, Result, Some}
use Rattle.fault.specs.declared.Cause.{Cause}
use Rattle.question.specs.Question.{Question}
use Rattle.question.specs.Contract.{strings_in}
use Rattle.question.specs.declared.WeekMinute.{WeekMinute}
use Rattle.line.specs.Line.{Line}
use Rattle.line.specs.Fold.{of_line, at_beginning, Refusal, faulty, cut}
use Rattle.line.specs.Scan.{most_joined, most_fields}
use Rattle.line.specs.Contract.{fields_in}
use Rattle.variables.specs.Scope.{Definition, define}
use Rattle.variables.specs.Contract.{definitions_in, definitions_of}
use Rattle.variables.specs.declared.Variables.{Variables}
use Rattle.options.specs.Contract.{options_in}
use Rattle.entry.specs.Field.{Entry}
use Rattle.entry.specs.Entry.{entry_of, conditions_accept}
use Rattle.entry.specs.Path.{starred, path_for}
use Rattle.entry.specs.Contract.{verdict_in}
use Rattle.entry_line.specs.Contract.{texts_in}
use Rattle.reader.specs.State.{State, Decision, decided_at, scope_of, with_definition, with_entry}
use Rattle.reader.specs.Colon.{define_line, global_line}
use Rattle.reader.specs.Read.{judge_for, line_read}
use Rattle.table_lines.specs.declared.Decision.{Decision as CodeDecision}
use Rattle.table_lines.specs.declared.LinesFault.{LinesFault}
use Rattle.table_lines.specs.declared.LinesFault.TheVariants.{Refused, Cut}
use Rattle.table_lines.specs.declared.action.LineAction.{LineAction}
use Rattle.table_lines.specs.declared.action.LineAction.TheVariants.{Nothing, Define, Global, Decide}
use Rattle.table_lines.specs.Lines.{lines_give}

-- the parts that a question was asked with
pub record AskedWith (q : Question) (command user groups host : List ℕ) (minute : WeekMinute) (last : (Option Age)) (args : List ℕ) : Type 0 where
  pub its_command : q.command ≡ command
  pub its_user : q.user ≡ user
  pub its_groups : q.groups ≡ strings_in groups
  pub its_host : q.host ≡ host
  pub its_minute : q.minute ≡ minute.0
  pub its_age : q.age ≡ last
  pub its_args : q.args ≡ strings_in args
  pub few : length q.args ≤ 64

-- ---- the decision
-- the decision that the code keeps, with its path at the beginning of a buffer
abbrev pub decided_in : Option CodeDecision → List ℕ → Option Decision
decided_in None path = None
decided_in (Some d) path = Some (decided_at d.line (verdict_in (take d.path path) (options_in d.options) d.verdict))

-- ---- one line
-- a line that decides: its entry was read, no line before it decides, it accepts, and its path stands in the text of a field from a byte on
pub record Decides (q : Question) (s : State) (l : Line) (fs : List (List ℕ)) (from index place : ℕ) : Type 0 where
  pub entry : Entry
  pub read : entry_of (judge_for q) (scope_of q s) (drop from fs) ≡ Ok entry
  pub enters : line_read q s l ≡ Ok (with_entry q l.number entry s)
  pub undecided : s.decision ≡ None
  pub accepts : conditions_accept q.user entry ≡ true
  pub path : path_for q.command entry.pairs ≡ Some (starred q.command (drop place (texts_in (scope_of q s) fs index)))

-- what a line does with a state, where these buffers hold its fields
abbrev pub DoesIn : Question → State → Line → (text ends : List ℕ) → Result LineAction Cause → Type 0
DoesIn q s l text ends (Err c) = line_read q s l ≡ Err (of_line c)
DoesIn q s l text ends (Ok Nothing) = line_read q s l ≡ Ok s
DoesIn q s l text ends (Ok (Define n from)) = line_read q s l ≡ at_beginning (define_line (scope_of q s) s (drop from (fields_in text ends n)))
DoesIn q s l text ends (Ok (Global n from)) = line_read q s l ≡ at_beginning (global_line (scope_of q s) s (drop from (fields_in text ends n)))
DoesIn q s l text ends (Ok (Decide n from p)) = Decides q s l (fields_in text ends n) from p.field p.at

-- whether a line has decided
abbrev pub is_made : Option Decision → Bool
is_made None = false
is_made (Some d) = true

-- the code's variables, whether `patterns=shell` was read, and whether entries are judged, which they are until a line decides
pub record Stands (s : State) (bytes sizes : List ℕ) (names : ℕ) (shell judging : Bool) : Type 0 where
  pub variables : s.definitions ≡ definitions_in bytes sizes names
  pub kind : s.shell ≡ shell
  pub judged : judging ≡ not (is_made s.decision)

-- what a line with these bytes does, whatever its number and place, for whoever asks with these parts; the two buffers are as long as their types say, and stay so
pub record LineDoes (line text text' ends ends' : List ℕ) (shell judging : Bool) (command user groups host : List ℕ) (minute : WeekMinute) (bytes sizes : List ℕ) (names : ℕ) (r : Result LineAction Cause) : Type 0 where
  pub room : length text' ≡ length text
  pub places : length ends' ≡ length ends
  pub does : length text ≡ most_joined → length ends ≡ most_fields
      → (q : Question) {last : (Option Age)} {args : List ℕ} → AskedWith q command user groups host minute last args
      → (s : State) → Stands s bytes sizes names shell judging
      → (l : Line) → l.bytes ≡ line
      → DoesIn q s l text' ends' r

-- a `:define` gives a state with the variables v, and changes nothing else
pub record Defined (s : State) (v : Variables) (o : Result State Cause) : Type 0 where
  pub definition : Definition
  pub gives : o ≡ Ok (with_definition definition s)
  pub variables : define definition s.definitions ≡ definitions_of v

-- ---- all lines
-- how the lines end, the path of the decision in a buffer
abbrev pub ended_by : List ℕ → Result (Option CodeDecision) LinesFault → Result (Option Decision) (Refusal Cause)
ended_by path (Err (Refused c p)) = Err (faulty c p)
ended_by path (Err (Cut p)) = Err (cut p)
ended_by path (Ok d) = Ok (decided_in d path)

-- what the lines of a table give to whoever asks with these parts, the path of the decision in a buffer
pub record ReadsLines (t command user groups host : List ℕ) (minute : WeekMinute) (last : (Option Age)) (args path : List ℕ) (r : Result (Option CodeDecision) LinesFault) : Type 0 where
  pub gives : (q : Question) → AskedWith q command user groups host minute last args → lines_give q t ≡ ended_by path r
