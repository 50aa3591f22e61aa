-- What `supertab --check` prints for an answer (docs/check-words.md).
use Rattle.std.specs.Prelude.{ℕ, min, Bool, cond, ◌||◌, List, ◌++◌, map, eqb, ltb, length}
use Rattle.text.specs.Bytes.{bytes, byte, is}
use Rattle.fault.specs.Fault.{number_of}
use Rattle.line.specs.Refused.{accepted}
use Rattle.answer.specs.declared.Answer.{Answer}
use Rattle.answer.specs.declared.Answer.TheVariants.{Permit, Password, NoEntry, StoppedByNargs, StoppedByArgument, StoppedByPath, MalformedQuestion, LongTable, RefusedByte, CutShort, RefusedLine, SmallBuffer}
use Rattle.output.specs.Decimal.{decimal}
use Rattle.explain.specs.Place.{line_number, column, physical_line, line_front}
use Rattle.explain.specs.Words.{words_of, long_table_words, refused_byte_words, cut_short_words}
use Rattle.explain.specs.declared.row.Row.{Row}
use Rattle.explain.specs.declared.row.Row.TheVariants.{Line, Caret, Name}

-- a byte that would move a terminal's cursor
unfoldable pub control : ℕ → Bool
control b = ltb b 32 || eqb b 127

-- a byte as it is shown: in the physical line `?` for one that no table may have, in front of the caret a tab for a tab and a space for any other, in a name or a question `?` for a control byte
unfoldable pub shown_in : Row → ℕ → ℕ
unfolding control
shown_in Line b = cond (accepted b) b (byte "?")
shown_in Caret b = cond (is "\t" b) b (byte " ")
shown_in Name b = cond (control b) (byte "?") b

-- a name as it is shown
unfoldable pub shown_name : List ℕ → List ℕ
unfolding shown_in
shown_name name = map (shown_in Name) name

-- the physical line and the caret line
unfoldable pub rows : List ℕ → ℕ → List ℕ
rows table place = map (shown_in Line) (physical_line table place) ++ bytes "\n" ++ map (shown_in Caret) (line_front table place) ++ bytes "^\n"

-- "LINE:COLUMN", each behind a colon
unfoldable pub position : List ℕ → ℕ → List ℕ
unfolding decimal
position table place = bytes ":" ++ decimal (line_number table place) ++ bytes ":" ++ decimal (column table place)

-- "refused NUMBER:", with what stands round it
unfoldable pub refused : ℕ → List ℕ
unfolding decimal
refused number = bytes ": refused " ++ decimal number ++ bytes ": "

-- "refused NUMBER: words"
unfoldable pub refusal : ℕ → List ℕ → List ℕ
unfolding refused
refusal number words = refused number ++ words ++ bytes "\n"

-- a refusal with its place in a line
unfoldable pub refusal_at : List ℕ → ℕ → ℕ → List ℕ → List ℕ
unfolding position refusal rows
refusal_at table place number words = position table place ++ refusal number words ++ rows table place

-- a place as one that the table has: its end for all places past it
abbrev pub place_in : List ℕ → ℕ → ℕ
place_in table place = min place (length table)

-- that a table is ok for this question, which is all that a check has looked at
unfoldable pub ok_for : List ℕ → List ℕ
unfolding shown_name
ok_for question = bytes ": ok for \"" ++ shown_name question ++ bytes "\"\n"

-- what stands behind the table's name; of 10 and 17, which are no faults of a table, the number and the place
unfoldable pub finding : (question table : List ℕ) → Answer → List ℕ
unfolding ok_for
finding question table (Permit g) = ok_for question
finding question table (Password g) = ok_for question
finding question table NoEntry = ok_for question
finding question table (StoppedByNargs l) = ok_for question
finding question table (StoppedByArgument l) = ok_for question
finding question table (StoppedByPath l) = ok_for question
finding question table MalformedQuestion = bytes ": refused 10 0\n"
finding question table LongTable = refusal 11 long_table_words
finding question table (RefusedByte p) = refusal_at table (place_in table p) 12 refused_byte_words
finding question table (CutShort p) = refusal_at table (place_in table p) 13 cut_short_words
finding question table (RefusedLine c p) = refusal_at table (place_in table p) (number_of c) (words_of c)
finding question table SmallBuffer = bytes ": refused 17 0\n"

-- what is printed for a table of this name
unfoldable pub explained : (name question table : List ℕ) → Answer → List ℕ
unfolding shown_name finding
explained name question table answer = shown_name name ++ finding question table answer
