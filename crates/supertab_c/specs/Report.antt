-- The report of the call for C: 24 numbers beside the number of the answer (include/supertab.h).
use Rattle.std.specs.Prelude.{ℕ, ◌-◌, min, Bool, cond, List, ◌∷◌, ◌++◌, ℤ, pos, replicate, None, Option, Some}
use Rattle.fault.specs.declared.Cause.{Cause}
use Rattle.fault.specs.declared.Cause.TheVariants.{LineLength, Indent, OpenQuote, FieldCount, Variable, FieldLength, Pattern, PatternSize, NameLength, TextLength, IdLength, IfDepth, Alternative, TimeItem, OptionName, OptionValue, PatternKind, EntryTooEarly, ColonWord, DefineName, Operator, LatePair, Path, SurplusField, MissingPart, OptionTwice, TooManyNames}
use Rattle.options.specs.declared.span.Span.{Span}
use Rattle.line.specs.Line.{table_limit}
use Rattle.answer.specs.declared.Granted.{Granted}
use Rattle.answer.specs.declared.Answer.{Answer}
use Rattle.answer.specs.declared.Answer.TheVariants.{Permit, Password, NoEntry, StoppedByNargs, StoppedByArgument, StoppedByPath, MalformedQuestion, LongTable, RefusedByte, CutShort, RefusedLine, SmallBuffer}

-- how many numbers are written
abbrev pub report_length : ℕ
report_length = 24

-- the most that an i64 takes
abbrev pub most : ℕ
most = 9223372036854775807

-- a line, a place or a count. It is told as it is: no answer to a table has a line, a place or an end above 32,768 (law `answer_within`), and nargs names at most 64
unfoldable pub counted : ℕ → ℤ
counted n = pos (min n most)

-- the place of a string's zero byte, by the string's end just after that byte
unfoldable pub zero_place : ℕ → ℤ
zero_place end = counted (end - 1)

-- 1 where it is on
unfoldable pub bit : Bool → ℤ
bit on = cond on (pos 1) (pos 0)

-- whether a timeout is set
unfoldable pub timeout_set : (Option ℤ) → ℤ
timeout_set None = pos 0
timeout_set (Some m) = pos 1

-- its minutes
unfoldable pub timeout_minutes : (Option ℤ) → ℤ
timeout_minutes None = pos 0
timeout_minutes (Some m) = m

-- whether nargs is set
unfoldable pub nargs_set : Option Span → ℤ
nargs_set None = pos 0
nargs_set (Some s) = pos 1

-- the least number of arguments
unfoldable pub nargs_low : Option Span → ℤ
nargs_low None = pos 0
nargs_low (Some s) = counted s.low

-- the most arguments
unfoldable pub nargs_high : Option Span → ℤ
nargs_high None = pos 0
nargs_high (Some s) = counted s.high

-- the causes, counted from 1 in their order
unfoldable pub cause_index : Cause → ℤ
cause_index LineLength = pos 1
cause_index Indent = pos 2
cause_index OpenQuote = pos 3
cause_index FieldCount = pos 4
cause_index Variable = pos 5
cause_index FieldLength = pos 6
cause_index Pattern = pos 7
cause_index PatternSize = pos 8
cause_index NameLength = pos 9
cause_index TextLength = pos 10
cause_index IdLength = pos 11
cause_index IfDepth = pos 12
cause_index Alternative = pos 13
cause_index TimeItem = pos 14
cause_index OptionName = pos 15
cause_index OptionValue = pos 16
cause_index PatternKind = pos 17
cause_index EntryTooEarly = pos 18
cause_index ColonWord = pos 19
cause_index DefineName = pos 20
cause_index Operator = pos 21
cause_index LatePair = pos 22
cause_index Path = pos 23
cause_index SurplusField = pos 24
cause_index MissingPart = pos 25
cause_index OptionTwice = pos 26
cause_index TooManyNames = pos 27

-- numbers that mean nothing
abbrev pub zeros : ℕ → List ℤ
zeros n = replicate n (pos 0)

-- beside 0 and 1: line, bytes written, auth, timeout, nargs, and where each of the five strings ends
unfoldable pub grant_numbers : Granted → List ℤ
grant_numbers g =
    counted g.line
    ∷ counted g.egid
    ∷ bit g.auth
    ∷ timeout_set g.timeout
    ∷ timeout_minutes g.timeout
    ∷ nargs_set g.nargs
    ∷ nargs_low g.nargs
    ∷ nargs_high g.nargs
    ∷ zero_place g.path
    ∷ zero_place g.uid
    ∷ zero_place g.euid
    ∷ zero_place g.gid
    ∷ zero_place g.egid
    ∷ zeros 11

-- beside the others: a line or a place first, and the cause as number 21, 0 where there is none
unfoldable pub place_numbers : ℕ → ℤ → List ℤ
place_numbers place cause = counted place ∷ zeros 20 ++ cause ∷ zeros 2

-- the 24 numbers of every answer
unfoldable pub report_of : Answer → List ℤ
report_of (Permit g) = grant_numbers g
report_of (Password g) = grant_numbers g
report_of NoEntry = place_numbers 0 (pos 0)
report_of (StoppedByNargs line) = place_numbers line (pos 0)
report_of (StoppedByArgument line) = place_numbers line (pos 0)
report_of (StoppedByPath line) = place_numbers line (pos 0)
report_of MalformedQuestion = place_numbers 0 (pos 0)
report_of LongTable = place_numbers table_limit (pos 0)
report_of (RefusedByte place) = place_numbers place (pos 0)
report_of (CutShort place) = place_numbers place (pos 0)
report_of (RefusedLine cause place) = place_numbers place (cause_index cause)
report_of SmallBuffer = place_numbers 0 (pos 0)
