-- What the call for C on su files gives: its number, and what the report holds after it (02 (xiv), include/supertab.h).
use Rattle.std.specs.Prelude.{cond, List, ◌∷◌, ℕ, eqb, ℤ, pos, length, drop}
use Rattle.suauth.specs.declared.Action.{Action}
use Rattle.suauth.specs.declared.Action.TheVariants.{Deny, NoPassword, OwnPassword}
use Rattle.suauth.specs.Answer.{Told, acts, no_rule, refused, told_of}
use Rattle.suauth.specs.Meaning.{Asked, answer_of}
use Rattle.supertab_c.specs.declared.su.SuTold.{SuTold}
use Rattle.supertab_c.specs.Call.{short_report}

-- the papers give the actions no numbers; the rulings on 02: "the header names its own: NOPASS 0, OWNPASS 1, no rule 2, DENY 3"
abbrev pub action_number : Action → ℕ
action_number NoPassword = 0
action_number OwnPassword = 1
action_number Deny = 3

-- the number of every answer, and the line or the place beside it, which is 0 for no rule
unfoldable pub su_told : Told → SuTold
su_told (acts a line) = record { number = action_number a; value = line }
su_told no_rule = record { number = 2; value = 0 }
su_told (refused number place) = record { number = number; value = place }

-- the result of the call and the report
pub record SuCall : Type 0 where
  pub number : ℕ
  pub report : List ℤ

-- this result, with this
abbrev pub su_called : ℕ → List ℤ → SuCall
su_called n r = record { number = n; report = r }

-- the line or the place stands at the front of the report, whose later numbers stay
abbrev pub tells_su : SuTold → List ℤ → SuCall
tells_su t r = su_called t.number (pos t.value ∷ drop 1 r)

-- 255 first, where the report has no number, and then nothing is written; else the answer to the question from the file
unfoldable pub su_call : (file : List ℕ) → Asked → (report : List ℤ) → SuCall
su_call f a r = cond (eqb (length r) 0) (su_called short_report r) (tells_su (su_told (told_of (answer_of f a))) r)
