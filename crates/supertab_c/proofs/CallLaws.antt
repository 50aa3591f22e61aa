-- The parts of a question as a caller in C gives them, and the call as a whole. Assumes nothing.
use Rattle.std.specs.Prelude.{None, Option, Some}
use Rattle.question.specs.declared.Age.{Age}
use mathlib.Core.Path.{◌≡◌, sym, ap, ◌∙◌}
use mathlib.Core.Bool.{Bool, true, false}
use mathlib.Core.List.{List, ◌++◌}
use Prim.Native.Nat.{ℕ, ◌≤◌, ◌<◌, min}
use native.Mathlib.Omega.{arith}
use borrow.Author.Tests.{le-leb, lt-leb}
use lib.IntN.{ℤ}
use lib.ListN.{length, drop}
use Rattle.question.specs.Question.{week_minutes}
use Rattle.question.specs.declared.WeekMinute.{WeekMinute}
use Rattle.answer.specs.Answer.{result, told_of}
use Rattle.answer.specs.Meaning.{Asked, answer_of}
use Rattle.answer.specs.declared.Answer.{Answer}
use Rattle.supertab_c.specs.Report.{report_length, report_of}
use Rattle.supertab_c.specs.Call.{minute_of, last_of, asked_by, called, short_report, call_of}
use mir.Syntax.{w32}
use mir.Val.{SFits, to_z, of_z}
use mir.ValLaws.{to_z-of_z}

module _ (minute : ℕ) where
  pub minute_within : minute < week_minutes → ◌≡◌ {A = WeekMinute} record { 0 = minute } (minute_of minute)
  unfolding minute_of
  minute_within h = let e : min minute week_minutes ≡ minute = omega arith in rw e

  pub minute_past : week_minutes ≤ minute → ◌≡◌ {A = WeekMinute} record { 0 = week_minutes } (minute_of minute)
  unfolding minute_of
  minute_past h = let e : min minute week_minutes ≡ week_minutes = omega arith in rw e

module _ {authenticated : Bool} (age : ℤ) where
  pub last_minutes : SFits w32 age → authenticated ≡ true → Some record { 0 = to_z w32 (of_z w32 age) } ≡ last_of authenticated age
  unfolding last_of
  last_minutes f e = rw (e, to_z-of_z w32 age f)

  pub last_never : authenticated ≡ false → None ≡ last_of authenticated age
  unfolding last_of
  last_never e = rw e

-- a short report is told first, and nothing is written
pub call_short : (t : List ℕ) (a : Asked) (b : List ℕ) (r : List ℤ) → length r < report_length → called short_report b r ≡ call_of t a b r
unfolding call_of
call_short t a b r h = rw (lt-leb report_length (length r) h)

-- else the answer to the question from the table is told
module _ (t command user groups host : List ℕ) (minute : ℕ) (authenticated : Bool) (age : ℤ) (args b : List ℕ) (r : List ℤ) {m : WeekMinute} {l : (Option Age)} where
  pub call_told : {x : Answer} {n : ℕ} {b' : List ℕ} {told new : List ℤ}
      → report_length ≤ length r
      → m ≡ minute_of minute
      → SFits w32 age
      → l ≡ last_of authenticated (to_z w32 (of_z w32 age))
      → result x b' ≡ answer_of t (record { command = command; user = user; groups = groups; host = host; minute = m; age = l; args = args }) b
      → told ≡ report_of x
      → new ≡ told ++ drop report_length r
      → ((k : List ℕ) → n ≡ (told_of x k).number)
      → called n b' new ≡ call_of t (asked_by command user groups host minute authenticated age args) b r
  unfolding call_of asked_by
  call_told {x} {n} {b'} h em f el e er en num = let k = el ∙ ap (last_of authenticated) (to_z-of_z w32 age f) in rw (le-leb report_length (length r) h, sym em, sym k, sym e, num b', en, er)
