-- The line that is printed for an answer from a su file, with the newline at its end.
use Rattle.std.specs.Prelude.{List, ◌++◌, ℕ}
use Rattle.text.specs.Bytes.{bytes}
use Rattle.suauth.specs.declared.Action.{Action}
use Rattle.suauth.specs.declared.Action.TheVariants.{Deny, NoPassword, OwnPassword}
use Rattle.suauth.specs.Answer.{Told, acts, no_rule, refused}
use Rattle.output.specs.Decimal.{decimal}
use Rattle.console.specs.Printed.{refusal_text}

-- the word of an action
abbrev pub action_word : Action → List ℕ
action_word Deny = bytes "deny "
action_word NoPassword = bytes "nopass "
action_word OwnPassword = bytes "ownpass "

-- a word and the number of the deciding line
unfoldable pub action_text : List ℕ → ℕ → List ℕ
unfolding decimal
action_text word line = word ++ decimal line ++ bytes "\n"

-- `deny LINE`, `nopass LINE`, `ownpass LINE`, `none`, or the refusal as for a table
unfoldable pub su_printed : Told → List ℕ
unfolding action_text refusal_text
su_printed (acts action line) = action_text (action_word action) line
su_printed no_rule = bytes "none\n"
su_printed (refused number place) = refusal_text number place
