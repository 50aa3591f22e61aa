-- What is printed for some answers, computed: line and column, the caret below its byte, tabs in front of it.
use mathlib.Core.Path.{◌≡◌, refl}
use mathlib.Core.List.{List, [], ◌∷◌, ◌++◌}
use Prim.Native.Nat.{ℕ}
use Rattle.text.specs.Bytes.{bytes}
use Rattle.text.specs.Class.{class_of, blank, letter, digit, printable}
use Rattle.text.specs.Contract.{lead}
use Rattle.fault.specs.Fault.{number_of}
use Rattle.fault.specs.declared.Cause.TheVariants.{Path}
use Rattle.line.specs.Refused.{accepted}
use Rattle.answer.specs.declared.Answer.TheVariants.{NoEntry, RefusedByte, CutShort, RefusedLine}
use Rattle.output.specs.Decimal.{decimal, written}
use Rattle.explain.specs.Place.{line_number, line_start, line_end, column, physical_line, line_front}
use Rattle.explain.specs.Words.{words_of, refused_byte_words}
use Rattle.explain.specs.Explained.{shown_in, rows, position, refused, refusal, refusal_at, control, shown_name, ok_for, finding, explained}

-- a table with tabs, and with a letter of two bytes that no table may have
abbrev pub accented : List ℕ
accented = bytes ":global patterns=shell\nc\t/p\tann,j" ++ 195 ∷ 188 ∷ bytes "rgen\n"

-- tabs in front of the caret are copied; both bytes of the letter are printed as `?`
pub accented_shown : explained (bytes "a.tab") [] accented (RefusedByte 33) ≡ bytes "a.tab:2:11: refused 12: " ++ refused_byte_words ++ bytes "\nc\t/p\tann,j??rgen\n \t  \t     ^\n"
unfolding explained shown_name control finding refusal_at refusal refused position rows shown_in physical_line line_front column line_end line_start line_number decimal written refused_byte_words accepted class_of blank letter digit printable lead
accented_shown = refl

-- a faulty line in the middle of a table: its first byte is told
pub faulty_shown : explained (bytes "-") [] (bytes "# paths\nc bin/p ann\nd /p bo\n") (RefusedLine Path 8) ≡ bytes "-:2:1: refused 14: " ++ words_of Path ++ bytes "\nc bin/p ann\n^\n"
unfolding explained shown_name control finding refusal_at refusal refused position rows shown_in physical_line line_front column line_end line_start line_number decimal written number_of words_of accepted class_of blank letter digit printable lead
faulty_shown = refl

-- a place at the table's end, behind its last newline, is on the next line, which is empty; so is any place past it
pub end_shown : rows (bytes "c /p ann\n") 9 ≡ bytes "\n^\n"
unfolding rows shown_in physical_line line_front line_end line_start lead
end_shown = refl

pub end_position : position (bytes "c /p ann\n") 9 ≡ bytes ":2:1"
unfolding position column line_start line_number decimal written
end_position = refl

pub past_the_end : finding [] (bytes "c /p ann\n") (CutShort 10) ≡ finding [] (bytes "c /p ann\n") (CutShort 9)
unfolding finding
past_the_end = refl

-- a place at a newline is on the line that the newline ends
pub newline_position : position (bytes "\n\nc /p\n") 6 ≡ bytes ":3:5"
unfolding position column line_start line_number decimal written
newline_position = refl

-- a decision is ok for the question; control bytes of a name are printed as `?`, bytes of other letters as they are
pub ok_shown : explained (27 ∷ 195 ∷ 188 ∷ 127 ∷ bytes ".tab") (bytes "halt ann - van2 480 -") [] NoEntry ≡ (63 ∷ 195 ∷ 188 ∷ 63 ∷ []) ++ bytes ".tab: ok for \"halt ann - van2 480 -\"\n"
unfolding explained finding ok_for shown_name shown_in control
ok_shown = refl
