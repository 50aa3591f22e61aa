-- What a question line about a su file asks: `TARGET USER GROUPS`, GROUPS as in 01's question lines (`-` for no group, else comma-joined).
use Rattle.std.specs.Prelude.{cond, List, [], ◌∷◌, ℕ, None, Option, Some}
use Rattle.text.specs.Bytes.{byte}
use Rattle.text.specs.Lists.{split_at}
use Rattle.suauth.specs.Meaning.{Asked}
use Rattle.console.specs.QuestionLine.{groups_in, good_line}

-- what the pieces between spaces ask; any other number of them than three is not of the form
unfoldable pub su_asked_from : List (List ℕ) → Option Asked
unfolding groups_in
su_asked_from [] = None
su_asked_from (target ∷ []) = None
su_asked_from (target ∷ user ∷ []) = None
su_asked_from (target ∷ user ∷ groups ∷ []) = Some (record { target = target; user = user; groups = groups_in groups })
su_asked_from (target ∷ user ∷ groups ∷ more ∷ pieces) = None

-- what a line, without its newline, asks; none is a line that is not of the form, has more than 32,768 bytes or a zero byte. Every space parts
unfoldable pub su_asked_in : List ℕ → Option Asked
unfolding good_line su_asked_from split_at
su_asked_in line = cond (good_line line) (su_asked_from (split_at (byte " ") line)) None
