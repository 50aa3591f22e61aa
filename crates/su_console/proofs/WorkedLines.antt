-- What is printed for question lines from the example file of source 001, computed. Assumes nothing.
use mathlib.Core.Path.{◌≡◌, refl}
use mathlib.Core.List.{List, [], ◌∷◌, map}
use Prim.Native.Nat.{ℕ}
use Rattle.text.specs.Bytes.{bytes}
use Rattle.su_console.specs.Response.{su_response}

-- the file, with its comments
pub sample : List ℕ
sample = bytes "# sample /etc/suauth file\n#\n# A couple of privileged usernames may\n# su to root with their own password.\n#\nroot:chris,birddog:OWNPASS\n#\n# Anyone else may not su to root unless in\n# group wheel. This is how BSD does things.\n#\nroot:ALL EXCEPT GROUP wheel:DENY\n#\n# Perhaps terry and birddog are accounts\n# owned by the same person.\n# Access can be arranged between them\n# with no password.\n#\nterry:birddog:NOPASS\nbirddog:terry:NOPASS\n#\n"

-- "A couple of privileged usernames", "Anyone else may not su to root unless in group wheel", "Access can be arranged between them"
pub questions : List (List ℕ)
questions =
    bytes "root chris -"
    ∷ bytes "root birddog wheel"
    ∷ bytes "root ann staff"
    ∷ bytes "root ann staff,wheel"
    ∷ bytes "terry birddog -"
    ∷ bytes "birddog terry -"
    ∷ bytes "terry ann -"
    ∷ bytes "root ann"
    ∷ []

pub sample_lines : map (su_response sample) questions ≡
    bytes "ownpass 6\n"
    ∷ bytes "ownpass 6\n"
    ∷ bytes "deny 11\n"
    ∷ bytes "none\n"
    ∷ bytes "nopass 18\n"
    ∷ bytes "nopass 19\n"
    ∷ bytes "none\n"
    ∷ bytes "refused 10 0\n"
    ∷ []
unfolding sample questions mathlib.Core.List.flat_map Rattle.text.specs.Class.blank Rattle.text.specs.Class.letter Rattle.text.specs.Class.digit Rattle.text.specs.Class.name_byte Rattle.text.specs.Class.printable Rattle.text.specs.Class.class_of Rattle.text.specs.Lists.count Rattle.text.specs.Lists.has Rattle.text.specs.Lists.split_at Rattle.text.specs.Slice.head_is Rattle.text.specs.Slice.find_pair Rattle.question.specs.Question.good_name Rattle.question.specs.Question.good_strings Rattle.question.specs.Strings.strings_of Rattle.line.specs.Line.ended_lines Rattle.line.specs.Line.last_ends Rattle.line.specs.Line.cut_short Rattle.line.specs.Line.placed Rattle.line.specs.Fold.run Rattle.line.specs.Fold.outcome Rattle.line.specs.Refused.accepted Rattle.line.specs.Refused.refused_from Rattle.line.specs.Refused.refused_byte Rattle.suauth.specs.Rule.reserved Rattle.suauth.specs.Rule.list_name Rattle.suauth.specs.Rule.list_in Rattle.suauth.specs.Rule.behind_word Rattle.suauth.specs.Rule.names_in Rattle.suauth.specs.Rule.ids_in Rattle.suauth.specs.Rule.action_in Rattle.suauth.specs.Rule.rule_of Rattle.suauth.specs.Rule.past_blanks Rattle.suauth.specs.Rule.before_blanks Rattle.suauth.specs.Rule.text_rule Rattle.suauth.specs.Rule.rule_in Rattle.suauth.specs.Meaning.good_question Rattle.suauth.specs.Meaning.question_of Rattle.suauth.specs.Meaning.any_of Rattle.suauth.specs.Meaning.holds Rattle.suauth.specs.Meaning.means Rattle.suauth.specs.Meaning.applies Rattle.suauth.specs.Meaning.line_read Rattle.suauth.specs.Meaning.answer_of Rattle.suauth.specs.Answer.told_of Rattle.output.specs.Decimal.written Rattle.output.specs.Decimal.decimal Rattle.console.specs.QuestionLine.groups_in Rattle.console.specs.QuestionLine.good_line Rattle.console.specs.Printed.refusal_text Rattle.su_console.specs.QuestionLine.su_asked_from Rattle.su_console.specs.QuestionLine.su_asked_in Rattle.su_console.specs.Printed.action_text Rattle.su_console.specs.Printed.su_printed Rattle.su_console.specs.Response.su_response
sample_lines = refl
