-- 01's number for every answer, and what is returned beside it (01, "Answer numbers").
use Rattle.std.specs.Prelude.{ℕ, ℤ, ◌-◌, Bool, List, leb, take, drop, Option}
use Rattle.fault.specs.Fault.{number_of}
use Rattle.line.specs.Line.{table_limit}
use Rattle.options.specs.declared.span.Span.{Span}
use Rattle.answer.specs.declared.Granted.{Granted}
use Rattle.answer.specs.declared.Answer.{Answer}
use Rattle.answer.specs.declared.Answer.TheVariants.{Permit, Password, NoEntry, StoppedByNargs, StoppedByArgument, StoppedByPath, MalformedQuestion, LongTable, RefusedByte, CutShort, RefusedLine, SmallBuffer}

-- 17: "answer buffer under 2,048 bytes"
abbrev pub least_buffer : ℕ
least_buffer = 2048

-- an answer with what the buffer then holds
pub record Outcome : Type 0 where
  pub answer : Answer
  pub buffer : List ℕ

-- this answer, with this buffer
abbrev pub result : Answer → List ℕ → Outcome
result a b = record { answer = a; buffer = b }

-- beside 0 and 1: "line, effective options (the four ids, auth, timeout, nargs), bytes written", and the path; an id that is not set is empty
pub record Grant : Type 0 where
  pub line : ℕ
  pub path : List ℕ
  pub uid : List ℕ
  pub euid : List ℕ
  pub gid : List ℕ
  pub egid : List ℕ
  pub auth : Bool
  pub timeout : (Option ℤ)
  pub nargs : (Option Span)
  pub written : ℕ

-- what is returned beside a number: a grant, a line, or a place
pub data Beside : Type 0 where
  granted : Grant → Beside
  at_line : ℕ → Beside
  at_place : ℕ → Beside

-- an answer as 01 tells it
pub record Told : Type 0 where
  pub number : ℕ
  pub beside : Beside

-- this number, with this beside it
abbrev pub told : ℕ → Beside → Told
told n b = record { number = n; beside = b }

-- the string of a buffer that begins at a place and ends, with its zero byte, at e
abbrev pub string_in : List ℕ → ℕ → ℕ → List ℕ
string_in b at e = take (e - at - 1) (drop at b)

-- the path and the ids are told by the buffer
unfoldable pub grant_in : List ℕ → Granted → Grant
grant_in b g = record {
  line = g.line;
  path = string_in b 0 g.path;
  uid = string_in b g.path g.uid;
  euid = string_in b g.uid g.euid;
  gid = string_in b g.euid g.gid;
  egid = string_in b g.gid g.egid;
  auth = g.auth;
  timeout = g.timeout;
  nargs = g.nargs;
  written = g.egid;
}

-- the number of every answer and what stands beside it, by the answer and the buffer
unfoldable pub told_of : Answer → List ℕ → Told
told_of (Permit g) b = told 0 (granted (grant_in b g))
told_of (Password g) b = told 1 (granted (grant_in b g))
told_of NoEntry b = told 2 (at_line 0)
told_of (StoppedByNargs l) b = told 3 (at_line l)
told_of (StoppedByArgument l) b = told 4 (at_line l)
told_of (StoppedByPath l) b = told 5 (at_line l)
told_of MalformedQuestion b = told 10 (at_place 0)
told_of LongTable b = told 11 (at_place table_limit)
told_of (RefusedByte p) b = told 12 (at_place p)
told_of (CutShort p) b = told 13 (at_place p)
told_of (RefusedLine c p) b = told (number_of c) (at_place p)
told_of SmallBuffer b = told 17 (at_place 0)

-- what an outcome tells
abbrev pub told_by : Outcome → Told
told_by o = told_of o.answer o.buffer

-- 0 to 5 are decisions
unfoldable pub is_decision : Outcome → Bool
is_decision o = leb (told_by o).number 5

-- the line among what is returned
abbrev pub line_beside : Beside → ℕ
line_beside (granted g) = g.line
line_beside (at_line l) = l
line_beside (at_place p) = 0

-- the number of the deciding line's first physical line; 0 where no line decides
unfoldable pub deciding_line : Outcome → ℕ
deciding_line o = line_beside (told_by o).beside
