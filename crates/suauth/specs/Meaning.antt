-- The answer to a question from a su file: the order of refusals, all lines, then the first applicable rule.
use Rattle.std.specs.Option.{option_and_then, option_or}
use Rattle.std.specs.Str.{bytes_eq}
use Rattle.std.specs.List.{list_any}
use Rattle.std.specs.Prelude.{ℕ, Bool, true, not, cond, ◌&&◌, List, [], ◌∷◌, Err, None, Ok, Option, Result, Some}
use Rattle.fault.specs.Fault.{and_then}
use Rattle.question.specs.Question.{strings_of, user_bytes, most_groups, good_name, good_strings}
use Rattle.line.specs.Line.{Line, no_byte}
use Rattle.line.specs.Fold.{Located, at_beginning, Refusal, faulty, cut, outcome}
use Rattle.line.specs.Refused.{refused_byte}
use Rattle.line.specs.declared.whole.Unaccepted.{Unaccepted}
use Rattle.line.specs.declared.whole.Unaccepted.TheVariants.{Long, RefusedAt}
use Rattle.line.specs.Whole.{acceptance_of}
use Rattle.suauth.specs.declared.Action.{Action}
use Rattle.suauth.specs.declared.Action.TheVariants.{Deny, NoPassword, OwnPassword}
use Rattle.suauth.specs.declared.SuAnswer.{SuAnswer}
use Rattle.suauth.specs.declared.SuAnswer.TheVariants.{Deny as DenyBy, NoPassword as NoPasswordBy, OwnPassword as OwnPasswordBy, NoRule, MalformedQuestion, LongFile, RefusedByte, CutShort, MalformedLine}
use Rattle.suauth.specs.declared.rule.Malformed.{Malformed}
use Rattle.suauth.specs.declared.lines.Decision.{Decision}
use Rattle.suauth.specs.Rule.{Names, Ids, everyone, those, all_except, Rule, rule_in}

-- ---- the question
-- what is asked, as lists of bytes
pub record Question : Type 0 where
  pub target : List ℕ
  pub user : List ℕ
  pub groups : List (List ℕ)

-- the parts of a question as a caller gives them; groups are zero-ended strings one after the other
pub record Asked : Type 0 where
  pub target : List ℕ
  pub user : List ℕ
  pub groups : List ℕ

-- "The question is target, user and groups, as in 01": names of 1 to 32 bytes, up to 32 groups
unfoldable pub good_question : Question → Bool
unfolding good_name good_strings
good_question q = good_name user_bytes q.target && (good_name user_bytes q.user && good_strings most_groups (good_name user_bytes) q.groups)

-- the question, if it is good
abbrev pub if_good : Question → Option Question
if_good q = cond (good_question q) (Some q) None

-- what a caller's bytes ask; none is refusal 10
unfoldable pub question_of : Asked → Option Question
unfolding good_question strings_of
question_of a = option_and_then (λ gs. if_good (record { target = a.target; user = a.user; groups = gs })) (strings_of a.groups)

-- ---- when a rule applies
-- some name of the list is one of these
unfoldable pub any_of : (asked names : List (List ℕ)) → Bool
any_of asked names = list_any (λ n. list_any (bytes_eq n) asked) names

-- a list of users has the user, a list of groups one of the groups
unfoldable pub holds : (user : List ℕ) → (groups : List (List ℕ)) → Names → Bool
unfolding any_of
holds user groups n = any_of (cond n.grouped groups (user ∷ [])) n.names

-- an id means this user with these groups; the rulings on 02: "`ALL EXCEPT GROUP g` applies to whoever has none of the groups"
unfoldable pub means : (user : List ℕ) → (groups : List (List ℕ)) → Ids → Bool
unfolding holds
means user groups everyone = true
means user groups (those n) = holds user groups n
means user groups (all_except n) = not (holds user groups n)

-- the to-id means the target, the from-id the user or one of the groups
unfoldable pub applies : Question → Rule → Bool
unfolding means
applies q r = means q.target [] r.to && means q.user q.groups r.from

-- ---- all lines
-- the deciding line, and what its rule says, are what the rule of a line decides
abbrev pub decided_by : Question → ℕ → Rule → Option Decision
decided_by q line r = cond (applies q r) (Some (record { line = line; action = r.action })) None

-- one line more: "first applicable line decides"; a malformed one "refuses the file at that line, applicable or not"
unfoldable pub line_read : Question → Option Decision → Line → Result (Option Decision) (Located Malformed)
unfolding rule_in applies
line_read q d l = at_beginning (and_then (rule_in l.bytes) (λ r. Ok (option_or d (option_and_then (decided_by q l.number) r))))

-- what the lines of a file give, "every newline" ending one
abbrev pub lines_give : Question → List ℕ → Result (Option Decision) (Refusal Malformed)
lines_give q t = outcome no_byte (line_read q) (λ d. d) None t

-- ---- the answer
-- "the three actions with their line"
abbrev pub action_by : Action → ℕ → SuAnswer
action_by Deny l = DenyBy l
action_by NoPassword l = NoPasswordBy l
action_by OwnPassword l = OwnPasswordBy l

-- the first faulty line; else a cut line; else the decision, or "no rule"
abbrev pub settled : Result (Option Decision) (Refusal Malformed) → SuAnswer
settled (Err (faulty m p)) = MalformedLine p
settled (Err (cut p)) = CutShort p
settled (Ok None) = NoRule
settled (Ok (Some d)) = action_by d.action d.line

-- 11, then 12 (first such byte), then lines in order
abbrev pub read_bytes : List ℕ → Question → Result Unit Unaccepted → SuAnswer
read_bytes t q (Err Long) = LongFile
read_bytes t q (Err (RefusedAt p)) = RefusedByte p
read_bytes t q (Ok x) = settled (lines_give q t)

-- 10 first
abbrev pub read_file : List ℕ → Option Question → SuAnswer
read_file t None = MalformedQuestion
read_file t (Some q) = read_bytes t q (acceptance_of t)

-- the rulings on 02: "Order: 10, 11, 12, then lines in order, the first faulty one; a cut line last"
unfoldable pub answer_of : List ℕ → Asked → SuAnswer
unfolding question_of line_read outcome refused_byte
answer_of t a = read_file t (question_of a)
