-- The laws of the printed line: the text of each answer, and that it fits into the least buffer of a response. Assumes nothing.
use Rattle.std.specs.Prelude.{Option}
use mathlib.Core.Path.{◌≡◌}
use mathlib.Core.List.{List}
use Prim.Native.Nat.{ℕ, ◌≤◌}
use native.Mathlib.Omega.{arith}
use lib.ListN.{length, length-append}
use Rattle.text.specs.Bytes.{bytes}
use Rattle.text.specs.Contract.{Wrote}
use Rattle.suauth.specs.declared.Action.{Action}
use Rattle.suauth.specs.declared.Action.TheVariants.{Deny, NoPassword, OwnPassword}
use Rattle.suauth.specs.Answer.{Told, acts, no_rule, refused}
use Rattle.output.proofs.DecimalLaws.{decimal_digits}
use Rattle.console.specs.Contract.{least_room}
use Rattle.console.specs.Printed.{refusal_text}
use Rattle.su_console.specs.Printed.{action_word, action_text, su_printed}

-- the greatest number that the code has
abbrev pub most_number : ℕ
most_number = 18446744073709551615

word_length : (a : Action) → length (action_word a) ≤ 8
word_length Deny = omega arith
word_length NoPassword = omega arith
word_length OwnPassword = omega arith

action_length : (word : List ℕ) (line : ℕ) → length word ≤ 8 → line ≤ most_number → length (action_text word line) ≤ least_room
unfolding action_text
action_length word line h k =
    let d = decimal_digits 19 line (omega arith) in
    simp length-append (omega arith)

refusal_length : (number place : ℕ) → number ≤ most_number → place ≤ most_number → length (refusal_text number place) ≤ least_room
unfolding refusal_text
refusal_length number place h k =
    let d = decimal_digits 19 number (omega arith) in
    let e = decimal_digits 19 place (omega arith) in
    simp length-append (omega arith)

-- what is told, and the text that was put
module _ {old new : List ℕ} {r : Option ℕ} {t : Told} where
  pub action_printed : {a : Action} {line : ℕ} → t ≡ acts a line → line ≤ most_number → Wrote old new 0 (action_text (action_word a) line) r → Wrote old new 0 (su_printed t) r × (length (su_printed t) ≤ least_room)
  unfolding su_printed
  action_printed {a} {line} e h w = rw e (w, action_length (action_word a) line (word_length a) h)

  pub none_printed : t ≡ no_rule → Wrote old new 0 (bytes "none\n") r → Wrote old new 0 (su_printed t) r × (length (su_printed t) ≤ least_room)
  unfolding su_printed
  none_printed e w = rw e (w, omega arith)

  pub refusal_printed : {number place : ℕ} → t ≡ refused number place → number ≤ most_number → place ≤ most_number → Wrote old new 0 (refusal_text number place) r → Wrote old new 0 (su_printed t) r × (length (su_printed t) ≤ least_room)
  unfolding su_printed
  refusal_printed {number} {place} e h k w = rw e (w, refusal_length number place h k)
