-- What only contracts and proofs cite: demand 3 with a call's own result in it, and what the code's answers about a line stand for.
use Rattle.std.specs.Prelude.{ℕ, ◌≤◌, ◌<◌, ◌≡◌, Bool, true, false, cond, List, length, take, drop, get_or, Err, None, Ok, Option, Result, Some}
use denote.Ref.{Bor}
use Rattle.std.specs.Option.{option_map, option_and_then}
use Rattle.text.specs.Class.{blank}
use Rattle.fault.specs.Fault.{and_then}
use Rattle.question.specs.Contract.{strings_in}
use Rattle.suauth.specs.declared.Action.{Action}
use Rattle.suauth.specs.declared.SuAnswer.{SuAnswer}
use Rattle.suauth.specs.declared.rule.Malformed.{Malformed}
use Rattle.suauth.specs.Rule.{Names, Ids, Rule}
use Rattle.suauth.specs.Meaning.{Question, Asked, holds, means, applies, answer_of}
use Rattle.suauth.specs.Cut.{CutAt}

-- what is asked with these parts, and the question of parts that ask one
abbrev pub asking : (target user groups : List ℕ) → Asked
asking target user groups = record { target = target; user = user; groups = groups }

abbrev pub question_in : (target user groups : List ℕ) → Question
question_in target user groups = record { target = target; user = user; groups = strings_in groups }

-- whether there is a question
abbrev pub is_question : Option Question → Bool
is_question None = false
is_question (Some q) = true

-- ---- demand 3, where r is what the call gave for a file t and a question
-- r as the answer of the whole: every cut of t answers what demand 3 says beside r
abbrev pub WholeOf : List ℕ → Asked → SuAnswer → Type 0
WholeOf t a r = (n : ℕ) → n ≤ length t → CutAt t n r (answer_of (take n t) a)

-- r as the answer of a cut: for every file w of which t is the beginning, r is what demand 3 says beside the answer of w
abbrev pub CutOf : List ℕ → Asked → SuAnswer → Type 0
CutOf t a r = (w : List ℕ) (n : ℕ) → n ≤ length w → take n w ≡ t → CutAt w n (answer_of w a) r

-- what a call promises: its answer is the meaning's, and right as the answer of the whole and of a cut
pub record Promised (t : List ℕ) (a : Asked) (r : SuAnswer) : Type 0 where
  pub meaning : r ≡ answer_of t a
  pub whole : WholeOf t a r
  pub cut : CutOf t a r

-- ---- the blanks of a line
abbrev pub AllBlank : List ℕ → Type 0
AllBlank s = (k : ℕ) → k < length s → blank (get_or s k 0) ≡ true

-- at a place stands the first byte that is no blank, or the last
pub record FirstOther (s : List ℕ) (i : ℕ) : Type 0 where
  pub inside : i < length s
  pub other : blank (get_or s i 0) ≡ false
  pub blanks : (k : ℕ) → k < i → blank (get_or s k 0) ≡ true

pub record LastOther (s : List ℕ) (i : ℕ) : Type 0 where
  pub inside : i < length s
  pub other : blank (get_or s i 0) ≡ false
  pub blanks : (k : ℕ) → i < k → k < length s → blank (get_or s k 0) ≡ true

-- ---- a line
-- the bytes of a text that there may be
abbrev pub text_in : Option (Bor (List ℕ)) → Option (List ℕ)
text_in None = None
text_in (Some s) = Some s.now

-- what a list tells of a user with groups
abbrev pub names_told : List ℕ → List (List ℕ) → Option Names → Option Bool
names_told user groups o = option_map (holds user groups) o

-- what an id tells
abbrev pub ids_told : List ℕ → List (List ℕ) → Option Ids → Option Bool
ids_told user groups o = option_map (means user groups) o

-- the action of a rule that applies
abbrev pub action_if : Question → Rule → Option Action
action_if q r = cond (applies q r) (Some r.action) None

-- what a line tells: its rule's action, if it has a rule that applies
unfoldable pub line_tells : Question → Result (Option Rule) Malformed → Result (Option Action) Malformed
line_tells q r = and_then r (λ o. Ok (option_and_then (action_if q) o))
