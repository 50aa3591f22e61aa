-- The answer to a question from a table, and the buffer after it: the order of refusals, all control lines, then the decision.
use Rattle.question.specs.declared.Age.{Age}
use Rattle.std.specs.Prelude.{ℕ, ◌+◌, cond, ℤ, leb, length, Err, None, Ok, Option, Result, Some}
use mathlib.Core.List.{List, [], ◌∷◌, ◌++◌, flat_map}
use Rattle.text.specs.Buffer.{laid}
use Rattle.fault.specs.declared.Cause.{Cause}
use Rattle.question.specs.declared.WeekMinute.{WeekMinute}
use Rattle.question.specs.Question.{Question, question_of}
use Rattle.line.specs.Fold.{Refusal, faulty, cut}
use Rattle.line.specs.declared.whole.Unaccepted.{Unaccepted}
use Rattle.line.specs.declared.whole.Unaccepted.TheVariants.{Long, RefusedAt}
use Rattle.line.specs.Whole.{acceptance_of}
use Rattle.text.specs.Class.{Range}
use Rattle.options.specs.Options.{Options, auth_or, id_or}
use Rattle.entry.specs.Verdict.{Verdict, permit, password, stopped_by_nargs, stopped_by_argument, stopped_by_path}
use Rattle.reader.specs.State.{Decision}
use Rattle.table_lines.specs.Lines.{lines_give}
use Rattle.options.specs.declared.span.Span.{Span}
use Rattle.answer.specs.declared.Granted.{Granted}
use Rattle.answer.specs.declared.Answer.TheVariants.{Permit, Password, NoEntry, StoppedByNargs, StoppedByArgument, StoppedByPath, MalformedQuestion, LongTable, RefusedByte, CutShort, RefusedLine, SmallBuffer}
use Rattle.answer.specs.Answer.{least_buffer, Outcome, result}

-- the parts of a question as a caller gives them; groups and arguments are zero-ended strings one after the other
pub record Asked : Type 0 where
  pub command : List ℕ
  pub user : List ℕ
  pub groups : List ℕ
  pub host : List ℕ
  pub minute : WeekMinute
  pub age : (Option Age)
  pub args : List ℕ

-- the question that they ask, if it is a good one
abbrev pub asks : Asked → Option Question
asks a = question_of a.command a.user a.groups a.host a.minute a.age a.args

-- a string ended by a zero byte
abbrev pub ended : List ℕ → List ℕ
ended s = s ++ 0 ∷ []

-- "five strings, each ended by a zero byte: path, uid, euid, gid, egid (an option that is not set gives an empty string)"
unfoldable pub strings : List ℕ → Options → List ℕ
strings path o = flat_map ended (path ∷ id_or o.uid ∷ id_or o.euid ∷ id_or o.gid ∷ id_or o.egid ∷ [])

-- how many arguments are allowed, if that is set
abbrev pub count_told : Option Range → Option Span
count_told None = None
count_told (Some r) = Some (record { low = r.low; high = r.high })

-- line, where each string ends, effective options
unfoldable pub granted_by : ℕ → List ℕ → Options → Granted
granted_by line path o =
    let p = length (ended path) in
    let u = p + length (ended (id_or o.uid)) in
    let e = u + length (ended (id_or o.euid)) in
    let g = e + length (ended (id_or o.gid)) in
    record { line = line; path = p; uid = u; euid = e; gid = g; egid = g + length (ended (id_or o.egid)); auth = auth_or o.auth; timeout = o.timeout; nargs = count_told o.nargs }

-- "The lent answer buffer is changed by 0 and 1 only: it then begins with five strings .. Later bytes stay"
abbrev pub resolved : List ℕ → ℕ → Verdict → Outcome
resolved b line (permit path o) = result (Permit (granted_by line path o)) (laid b 0 (strings path o))
resolved b line (password path o) = result (Password (granted_by line path o)) (laid b 0 (strings path o))
resolved b line stopped_by_nargs = result (StoppedByNargs line) b
resolved b line stopped_by_argument = result (StoppedByArgument line) b
resolved b line stopped_by_path = result (StoppedByPath line) b

-- the first faulty line; else a cut line; else the decision
abbrev pub settled : List ℕ → Result (Option Decision) (Refusal Cause) → Outcome
settled b (Err (faulty c p)) = result (RefusedLine c p) b
settled b (Err (cut p)) = result (CutShort p) b
settled b (Ok None) = result NoEntry b
settled b (Ok (Some d)) = resolved b d.line d.verdict

-- the length (11), the bytes (12), then what the lines give
abbrev pub read_bytes : List ℕ → Question → List ℕ → Result Unit Unaccepted → Outcome
read_bytes t q b (Err Long) = result LongTable b
read_bytes t q b (Err (RefusedAt p)) = result (RefusedByte p) b
read_bytes t q b (Ok x) = settled b (lines_give q t)

-- 10 first
abbrev pub read_table : List ℕ → List ℕ → Option Question → Outcome
read_table t b None = result MalformedQuestion b
read_table t b (Some q) = read_bytes t q b (acceptance_of t)

-- "Order: 17, 10, 11, 12 (first such byte), then control lines in table order, the first faulty one deciding .. Only then the decision"
unfoldable pub answer_of : List ℕ → Asked → List ℕ → Outcome
answer_of t a b = cond (leb least_buffer (length b)) (read_table t b (asks a)) (result SmallBuffer b)
