-- The definitions computed: what question lines ask, what is printed for each kind of answer, and for a file that is checked. Assumes nothing.
use Rattle.std.specs.Prelude.{None, Some}
use mathlib.Core.Path.{◌≡◌, refl}
use mathlib.Core.List.{List, [], ◌∷◌, ◌++◌, map, flat_map}
use Prim.Native.Nat.{ℕ}
use lib.ListN.{replicate}
use Rattle.text.specs.Bytes.{bytes}
use Rattle.text.specs.Class.{class_of, blank, letter, digit, printable}
use Rattle.text.specs.Contract.{lead}
use Rattle.text.specs.Lists.{count, has, split_at}
use Rattle.line.specs.Refused.{accepted}
use Rattle.suauth.specs.declared.Action.TheVariants.{Deny, NoPassword, OwnPassword}
use Rattle.suauth.specs.declared.SuAnswer.TheVariants.{NoRule, MalformedQuestion, LongFile, RefusedByte, CutShort, MalformedLine}
use Rattle.suauth.specs.Answer.{Told, acts, no_rule, refused}
use Rattle.suauth.specs.Contract.{asking}
use Rattle.output.specs.Decimal.{decimal, written}
use Rattle.console.specs.QuestionLine.{groups_in, good_line}
use Rattle.console.specs.Printed.{refusal_text}
use Rattle.explain.specs.Place.{line_number, line_start, line_end, column, physical_line, line_front}
use Rattle.su_console.specs.QuestionLine.{su_asked_from, su_asked_in}
use Rattle.su_console.specs.Printed.{action_text, su_printed}
use Rattle.su_console.specs.Words.{long_file_words, su_refused_byte_words, su_cut_short_words, malformed_line_words}
use Rattle.su_console.specs.Explained.{su_finding, su_explained}
use Rattle.explain.specs.Explained.{control, shown_in, shown_name, rows, position, refused as refusedWith, refusal, refusal_at}

-- ---- what a question line asks
-- good lines: no group, groups, a list in which `-` is a name, empty pieces, which the question refuses
pub lines : List (List ℕ)
lines =
    bytes "root chris -"
    ∷ bytes "root ann wheel"
    ∷ bytes "root ann a,-,b"
    ∷ bytes "root ann ,a"
    ∷ bytes "root  -"
    ∷ bytes "root ann "
    ∷ bytes "  "
    ∷ []

pub lines_ask : map su_asked_in lines ≡
    Some (asking (bytes "root") (bytes "chris") [])
    ∷ Some (asking (bytes "root") (bytes "ann") (bytes "wheel" ++ 0 ∷ []))
    ∷ Some (asking (bytes "root") (bytes "ann") (bytes "a" ++ 0 ∷ bytes "-" ++ 0 ∷ bytes "b" ++ 0 ∷ []))
    ∷ Some (asking (bytes "root") (bytes "ann") (0 ∷ bytes "a" ++ 0 ∷ []))
    ∷ Some (asking (bytes "root") [] [])
    ∷ Some (asking (bytes "root") (bytes "ann") (0 ∷ []))
    ∷ Some (asking [] [] (0 ∷ []))
    ∷ []
unfolding lines flat_map has split_at groups_in good_line su_asked_from su_asked_in
lines_ask = refl

-- lines that are not of the form
pub malformed : List (List ℕ)
malformed =
    []
    ∷ bytes "root"
    ∷ bytes "root ann"
    ∷ bytes "root ann - "
    ∷ bytes "root ann - x"
    ∷ bytes "root  ann -"
    ∷ (bytes "root ann -" ++ 0 ∷ [])
    ∷ []

pub malformed_ask_nothing : map su_asked_in malformed ≡ replicate 7 None
unfolding malformed flat_map has split_at groups_in good_line su_asked_from su_asked_in
malformed_ask_nothing = refl

-- ---- what is printed
pub answers : List Told
answers =
    acts Deny 1
    ∷ acts NoPassword 20
    ∷ acts OwnPassword 32768
    ∷ no_rule
    ∷ refused 10 0
    ∷ refused 11 32768
    ∷ refused 14 18446744073709551615
    ∷ []

pub printed_answers : map su_printed answers ≡
    bytes "deny 1\n"
    ∷ bytes "nopass 20\n"
    ∷ bytes "ownpass 32768\n"
    ∷ bytes "none\n"
    ∷ bytes "refused 10 0\n"
    ∷ bytes "refused 11 32768\n"
    ∷ bytes "refused 14 18446744073709551615\n"
    ∷ []
unfolding answers written decimal refusal_text action_text su_printed
printed_answers = refl

-- ---- a file that is checked
-- a malformed line, its blanks included, and the caret below its first byte
pub malformed_shown : su_explained (bytes "suauth") (bytes "root:ALL:DENY\n\tann:DENY\n") (MalformedLine 14) ≡ bytes "suauth:2:1: refused 14: " ++ malformed_line_words ++ bytes "\n\tann:DENY\n^\n"
unfolding su_explained shown_name control su_finding refusal_at refusal refusedWith position rows shown_in physical_line line_front column line_end line_start line_number decimal written accepted class_of blank letter digit printable count lead malformed_line_words
malformed_shown = refl

-- both bytes of an accented letter are printed as `?`, and the caret stands below the first
pub accented_shown : su_explained (bytes "-") (bytes "ann,j" ++ 195 ∷ 188 ∷ bytes "rgen:ALL:DENY\n") (RefusedByte 5) ≡ bytes "-:1:6: refused 12: " ++ su_refused_byte_words ++ bytes "\nann,j??rgen:ALL:DENY\n     ^\n"
unfolding su_explained shown_name control su_finding refusal_at refusal refusedWith position rows shown_in physical_line line_front column line_end line_start line_number decimal written accepted class_of blank letter digit printable count lead su_refused_byte_words
accented_shown = refl

-- a file that ends in the middle of its last line
pub cut_shown : su_explained (bytes "-") (bytes "#\nroot:AL") (CutShort 2) ≡ bytes "-:2:1: refused 13: " ++ su_cut_short_words ++ bytes "\nroot:AL\n^\n"
unfolding su_explained shown_name control su_finding refusal_at refusal refusedWith position rows shown_in physical_line line_front column line_end line_start line_number decimal written accepted class_of blank letter digit printable count lead su_cut_short_words
cut_shown = refl

-- no place in a line
pub others_shown : map (su_explained (bytes "f") []) (NoRule ∷ MalformedQuestion ∷ LongFile ∷ []) ≡ bytes "f: ok\n" ∷ bytes "f: refused 10 0\n" ∷ (bytes "f: refused 11: " ++ long_file_words ++ bytes "\n") ∷ []
unfolding su_explained shown_name shown_in control su_finding refusal refusedWith decimal written
others_shown = refl
