-- What the contracts of the functions say: numbers held at a limit, where the pieces of a line are, what stands beside an answer, and what `respond` leaves in the buffer.
use Rattle.question.specs.declared.Age.{Age}
use Rattle.std.specs.Prelude.{◌≡◌, ℤ, pos, negsuc, cond, List, [], ℕ, ◌+◌, ◌-◌, ◌≤◌, ◌<◌, min, leb, ltb, length, take, drop, None, Option, Some}
use Rattle.text.specs.Buffer.{laid}
use Rattle.text.specs.Lists.{split_at}
use Rattle.text.specs.Contract.{lead}
use Rattle.line.specs.Line.{table_limit}
use Rattle.answer.specs.declared.Granted.{Granted}
use Rattle.answer.specs.declared.Answer.{Answer}
use Rattle.answer.specs.declared.Answer.TheVariants.{Permit, Password, NoEntry, StoppedByNargs, StoppedByArgument, StoppedByPath, MalformedQuestion, LongTable, RefusedByte, CutShort, RefusedLine, SmallBuffer}
use Rattle.answer.specs.Answer.{result}
use Rattle.answer.specs.Meaning.{Asked}
use Rattle.console.specs.QuestionLine.{line_limit, most_age, asked_in}
use Rattle.record.specs.Contract.{record_within}
use Rattle.console.specs.Console.{outcome_for, minute_for, age_for, response, logged}
use Rattle.console.specs.declared.respond.Answered.{Answered}
use Rattle.console.specs.declared.respond.Written.{Written}
use Rattle.console.specs.declared.question_line.Ends.{Ends}
use Rattle.console.specs.declared.question_line.Pieces.{Pieces}

-- one above the size of the least age: a number held there passes no test that the number itself would not pass
abbrev pub magnitude_limit : ℕ
magnitude_limit = 2147483649

-- a number held at a limit
abbrev pub capped_at : ℕ → Option ℕ → Option ℕ
capped_at limit None = None
capped_at limit (Some v) = Some (min v limit)

-- so many minutes as an age, if 32 bits hold them
abbrev pub age_held : ℤ → Option (Option Age)
age_held (pos n) = cond (leb n most_age) (Some (Some (record { 0 = pos n }))) None
age_held (negsuc n) = cond (leb n most_age) (Some (Some (record { 0 = negsuc n }))) None

-- where the pieces of a line end: each at the next space, or at the line's end
pub record EndsOf (line : List ℕ) (e : Ends) : Type 0 where
  pub command : e.command ≡ 0 + lead 32 (drop 0 line)
  pub user : e.user ≡ e.command + 1 + lead 32 (drop (e.command + 1) line)
  pub groups : e.groups ≡ e.user + 1 + lead 32 (drop (e.user + 1) line)
  pub host : e.host ≡ e.groups + 1 + lead 32 (drop (e.groups + 1) line)
  pub minute : e.minute ≡ e.host + 1 + lead 32 (drop (e.host + 1) line)
  pub age : e.age ≡ e.minute + 1 + lead 32 (drop (e.minute + 1) line)
  pub within : e.minute < length line → e.age ≤ length line

-- the pieces behind the space at a place; none where the line ends there
unfoldable pub arguments_behind : ℕ → List ℕ → List (List ℕ)
unfolding split_at
arguments_behind end line = cond (ltb end (length line)) (split_at 32 (drop (end + 1) line)) []

-- the bytes from one place up to another
abbrev pub part : List ℕ → ℕ → ℕ → List ℕ
part s from end = take (end - from) (drop from s)

-- what the pieces in the line and in the scratch ask
abbrev pub asked_by : List ℕ → List ℕ → (Option Pieces) → Option Asked
asked_by line scratch None = None
asked_by line scratch (Some p) = Some (record {
  command = part line 0 p.command;
  user = part line (p.command + 1) p.user;
  groups = part scratch 0 p.groups;
  host = part line (p.list + 1) p.host;
  minute = p.minute;
  age = p.last;
  args = part scratch p.groups p.args;
})

-- the places of the pieces lie in the line and in the scratch, one behind the other
abbrev pub Placed : List ℕ → (Option Pieces) → Type 0
Placed line None = Unit {0}
Placed line (Some p) = (p.command < p.user) × (p.user < p.list) × (p.list < p.host) × (p.host < length line) × (p.groups ≤ p.args) × (p.args ≤ line_limit)

-- a line was read, as asking this, into a scratch that kept its length
pub record Reads (line : List ℕ) (asked : Option Asked) (scratch : List ℕ) (r : (Option Pieces)) : Type 0 where
  pub size : length scratch ≡ line_limit
  pub asks : asked_by line scratch r ≡ asked
  pub placed : Placed line r

-- what a permit grants, and the line or the place beside any other answer
abbrev pub grant_beside : Answer → Option Granted
grant_beside (Permit g) = Some g
grant_beside (Password g) = Some g
grant_beside NoEntry = None
grant_beside (StoppedByNargs l) = None
grant_beside (StoppedByArgument l) = None
grant_beside (StoppedByPath l) = None
grant_beside MalformedQuestion = None
grant_beside LongTable = None
grant_beside (RefusedByte p) = None
grant_beside (CutShort p) = None
grant_beside (RefusedLine c p) = None
grant_beside SmallBuffer = None

abbrev pub number_beside : Answer → ℕ
number_beside (Permit g) = 0
number_beside (Password g) = 0
number_beside NoEntry = 0
number_beside (StoppedByNargs l) = l
number_beside (StoppedByArgument l) = l
number_beside (StoppedByPath l) = l
number_beside MalformedQuestion = 0
number_beside LongTable = table_limit
number_beside (RefusedByte p) = p
number_beside (CutShort p) = p
number_beside (RefusedLine c p) = p
number_beside SmallBuffer = 0

-- the least bytes of the lent buffer; every response fits into it (law `response_length`)
abbrev pub least_room : ℕ
least_room = 2048

-- a line was answered: the outcome, and the minute and the age that the line asks with
pub record Answers (table line old new : List ℕ) (r : Answered) : Type 0 where
  pub outcome : result r.answer new ≡ outcome_for table (asked_in line) old
  pub minute : r.minute ≡ minute_for (asked_in line)
  pub last : r.last ≡ age_for (asked_in line)

-- the text, which is never longer than the least room, stands at the buffer's beginning and later bytes stay, and the record in its own bytes; or the buffer is too small and all stays
abbrev pub Writes : (text recorded old new oldRecord newRecord : List ℕ) → Option Written → Type 0
Writes text recorded old new oldRecord newRecord None = (length old < least_room) × (new ≡ old) × (newRecord ≡ oldRecord)
Writes text recorded old new oldRecord newRecord (Some w) =
    (least_room ≤ length old) × (length text ≤ least_room) × (w.line ≡ length text) × (new ≡ laid old 0 text)
    × (w.record ≡ length (record_within (length oldRecord) recorded)) × (newRecord ≡ laid oldRecord 0 (record_within (length oldRecord) recorded))

-- a line was answered from a table: the response, and the record of it
abbrev pub Responds : (table line old new oldRecord newRecord : List ℕ) → Option Written → Type 0
Responds table line = Writes (response table line) (logged table line)
