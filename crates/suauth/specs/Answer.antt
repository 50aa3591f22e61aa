-- What every answer tells: an action by its name with its line, that there is no rule, or a refusal by its number with its place (02 (xiv): "the three actions with their line, or \"no rule\"", "Refusals: 10 to 14, numbers .. as in 01").
use Rattle.std.specs.Prelude.{ℕ, Bool, true, false}
use Rattle.line.specs.Line.{table_limit}
use Rattle.suauth.specs.declared.Action.{Action}
use Rattle.suauth.specs.declared.Action.TheVariants.{Deny, NoPassword, OwnPassword}
use Rattle.suauth.specs.declared.SuAnswer.{SuAnswer}
use Rattle.suauth.specs.declared.SuAnswer.TheVariants.{Deny as DenyBy, NoPassword as NoPasswordBy, OwnPassword as OwnPasswordBy, NoRule, MalformedQuestion, LongFile, RefusedByte, CutShort, MalformedLine}

-- an answer as 02 tells it
pub data Told : Type 0 where
  acts : Action → (line : ℕ) → Told
  no_rule : Told
  refused : (number place : ℕ) → Told

-- what each answer tells
unfoldable pub told_of : SuAnswer → Told
told_of (DenyBy l) = acts Deny l
told_of (NoPasswordBy l) = acts NoPassword l
told_of (OwnPasswordBy l) = acts OwnPassword l
told_of NoRule = no_rule
told_of MalformedQuestion = refused 10 0
told_of LongFile = refused 11 table_limit
told_of (RefusedByte p) = refused 12 p
told_of (CutShort p) = refused 13 p
told_of (MalformedLine p) = refused 14 p

-- it is no refusal
abbrev pub decides : Told → Bool
decides (acts a l) = true
decides no_rule = true
decides (refused n p) = false

unfoldable pub is_decision : SuAnswer → Bool
unfolding told_of
is_decision r = decides (told_of r)

-- it tells that no rule applies
abbrev pub says_no_rule : Told → Bool
says_no_rule (acts a l) = false
says_no_rule no_rule = true
says_no_rule (refused n p) = false

-- the line beside an action, 0 where none is told
abbrev pub line_told : Told → ℕ
line_told (acts a l) = l
line_told no_rule = 0
line_told (refused n p) = 0
