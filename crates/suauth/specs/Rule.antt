-- One line of a su file: its form (02 (xiv), source 001). Nothing here depends on the question.
use Rattle.std.specs.Option.{option_and_then, option_map}
use Rattle.std.specs.Str.{bytes_eq}
use Rattle.std.specs.List.{list_all, slice_split}
use Rattle.std.specs.Prelude.{ℕ, suc, Bool, true, false, not, cond, ◌&&◌, ◌||◌, List, [], ◌∷◌, length, drop, Err, None, Ok, Option, Result, Some}
use Rattle.text.specs.Bytes.{byte, bytes, is}
use Rattle.text.specs.Class.{blank}
use Rattle.text.specs.Lists.{null}
use Rattle.text.specs.Slice.{starts_with, head_is}
use Rattle.fault.specs.Fault.{needed}
use Rattle.question.specs.Question.{user_bytes, good_name}
use Rattle.line.specs.Joined.{begins}
use Rattle.suauth.specs.declared.Action.{Action}
use Rattle.suauth.specs.declared.Action.TheVariants.{Deny, NoPassword, OwnPassword}
use Rattle.suauth.specs.declared.rule.Malformed.{Malformed}

-- a comma list: of users, or behind GROUP of groups
pub record Names : Type 0 where
  pub grouped : Bool
  pub names : List (List ℕ)

-- a to-id or a from-id: ALL, a list, ALL EXCEPT a list
pub data Ids : Type 0 where
  everyone : Ids
  those : Names → Ids
  all_except : Names → Ids

-- `to-id:from-id:ACTION`
pub record Rule : Type 0 where
  pub to : Ids
  pub from : Ids
  pub action : Action

-- the one fault of a line: 14
abbrev pub malformed : Malformed
malformed = record {}

-- ---- a list
-- "ALL, EXCEPT and GROUP are no names in the file"
unfoldable pub reserved : List ℕ → Bool
reserved p = bytes_eq p (bytes "ALL") || (bytes_eq p (bytes "EXCEPT") || bytes_eq p (bytes "GROUP"))

-- a name as in 01, 1 to 32 bytes, that is none of these
unfoldable pub list_name : List ℕ → Bool
unfolding good_name reserved
list_name p = good_name user_bytes p && not (reserved p)

-- "a comma list": each part between commas is a name
unfoldable pub list_in : Bool → List ℕ → Option Names
unfolding list_name
list_in grouped s = cond (list_all list_name (slice_split (is ",") s)) (Some (record { grouped = grouped; names = slice_split (is ",") s })) None

-- ---- an id
-- what stands behind a word and one blank; none where the text does not begin so
unfoldable pub behind_word : List ℕ → List ℕ → Option (List ℕ)
unfolding blank
behind_word w s = cond (starts_with w s && begins blank (drop (length w) s)) (Some (drop (suc (length w)) s)) None

-- a list, where this stands behind GROUP
abbrev pub names_behind : List ℕ → Option (List ℕ) → Option Names
names_behind s None = list_in false s
names_behind s (Some r) = list_in true r

-- "GROUP lists on the from side only": `from` says that it is this side
unfoldable pub names_in : Bool → List ℕ → Option Names
unfolding list_in behind_word
names_in from s = names_behind s (cond from (behind_word (bytes "GROUP") s) None)

-- an id that is not ALL, where this stands behind ALL EXCEPT
abbrev pub ids_behind : Bool → List ℕ → Option (List ℕ) → Option Ids
ids_behind from s None = option_map those (names_in from s)
ids_behind from s (Some r) = option_map all_except (names_in from r)

-- "ALL, a comma list, ALL EXCEPT a list"; none where it is of no such form
unfoldable pub ids_in : Bool → List ℕ → Option Ids
unfolding behind_word names_in
ids_in from s = cond (bytes_eq s (bytes "ALL")) (Some everyone) (ids_behind from s (option_and_then (behind_word (bytes "EXCEPT")) (behind_word (bytes "ALL") s)))

-- ---- a line
-- "actions DENY, NOPASS, OWNPASS"
unfoldable pub action_in : List ℕ → Option Action
action_in s =
    cond (bytes_eq s (bytes "DENY")) (Some Deny)
    (cond (bytes_eq s (bytes "NOPASS")) (Some NoPassword)
    (cond (bytes_eq s (bytes "OWNPASS")) (Some OwnPassword)
    None))

-- the rule that three parts make: "an unknown action, a name not as in 01 .. refuses the file at that line"
unfoldable pub rule_of : (to from action : List ℕ) → Result (Option Rule) Malformed
unfolding ids_in action_in
rule_of to from action =
    needed malformed (ids_in false to) (λ t.
    needed malformed (ids_in true from) (λ f.
    needed malformed (action_in action) (λ a.
    Ok (Some (record { to = t; from = f; action = a })))))

-- "or a wrong number of colons": the parts between them are three
abbrev pub parts_rule : List (List ℕ) → Result (Option Rule) Malformed
parts_rule [] = Err malformed
parts_rule (to ∷ []) = Err malformed
parts_rule (to ∷ from ∷ []) = Err malformed
parts_rule (to ∷ from ∷ action ∷ []) = rule_of to from action
parts_rule (to ∷ from ∷ action ∷ x ∷ xs) = Err malformed

-- "blanks only at a line's two ends": what is left without those at the first
unfoldable pub past_blanks : List ℕ → List ℕ
unfolding blank
past_blanks [] = []
past_blanks (b ∷ s) = cond (blank b) (past_blanks s) (b ∷ s)

-- a byte in front of what is left, itself left out where it is a blank and nothing is behind it
abbrev pub kept_before : ℕ → List ℕ → List ℕ
kept_before b [] = cond (blank b) [] (b ∷ [])
kept_before b (x ∷ s) = b ∷ x ∷ s

-- without those at the second
unfoldable pub before_blanks : List ℕ → List ℕ
unfolding blank
before_blanks [] = []
before_blanks (b ∷ s) = kept_before b (before_blanks s)

-- "blank lines and those beginning `#`, leading blanks aside, are skipped"
unfoldable pub text_rule : List ℕ → Result (Option Rule) Malformed
unfolding head_is rule_of
text_rule s = cond (null s || head_is (byte "#") s) (Ok None) (parts_rule (slice_split (is ":") s))

-- the rule of a line, given without its newline; none where it is skipped
unfoldable pub rule_in : List ℕ → Result (Option Rule) Malformed
unfolding text_rule before_blanks past_blanks
rule_in s = text_rule (before_blanks (past_blanks s))
