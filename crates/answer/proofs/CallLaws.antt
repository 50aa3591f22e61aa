-- The whole call: the buffer, the question, then what the table gives; and demand 3 of it.
use Rattle.std.specs.Prelude.{None, Option, Some}
use Rattle.question.specs.declared.Age.{Age}
use mathlib.Core.Path.{◌≡◌, sym, ◌∙◌}
use mathlib.Core.Bool.{Bool, true, false}
use mathlib.Core.List.{List}
use Prim.Native.Nat.{ℕ, ◌≤◌, ◌<◌}
use borrow.Author.Tests.{le-leb, lt-leb, leb-true}
use lib.Dec.{leb}
use lib.ListN.{length}
use Rattle.text.proofs.Laws.{both_true}
use Rattle.question.specs.Question.{Question, most_arguments, good_strings, question_of}
use Rattle.question.specs.Contract.{is_question}
use Rattle.question.specs.declared.WeekMinute.{WeekMinute}
use Rattle.question.proofs.ZeroEnded.{strings_in_law}
use Rattle.question.proofs.Told.{question_told, question_some, question_none, good_told}
use Rattle.table_lines.specs.Contract.{AskedWith}
use Rattle.answer.specs.declared.Answer.TheVariants.{MalformedQuestion, SmallBuffer}
use Rattle.answer.specs.Answer.{Outcome, result}
use Rattle.answer.specs.Meaning.{Asked, asks, read_table, answer_of}
use Rattle.answer.specs.Contract.{asking, Promised}
use Rattle.answer.proofs.CutLaws.{promised}

-- a good question has the parts that it was asked with
pub asked_with : (command user groups host : List ℕ) (minute : WeekMinute) (last : (Option Age)) (args : List ℕ) {q : Question} → question_of command user groups host minute last args ≡ Some q → AskedWith q command user groups host minute last args
unfolding good_strings
asked_with command user groups host minute last args {q} e =
    let t = question_told command user groups host minute last args q e in
    let few = both_true (leb (length q.args) most_arguments) _ (good_told q t.good).args in
    record {
      its_command = t.its_command_law;
      its_user = t.its_user_law;
      its_groups = sym (strings_in_law groups q.groups t.its_groups_law);
      its_host = t.its_host_law;
      its_minute = t.its_minute_law;
      its_age = t.its_age_law;
      its_args = sym (strings_in_law args q.args t.its_args_law);
      few = leb-true (length q.args) most_arguments few.0;
    }

module _ (t : List ℕ) (a : Asked) (b : List ℕ) where
  pub call_small : length b < 2048 → Promised t a b (result SmallBuffer b)
  unfolding answer_of
  call_small h = promised t a b (rw (lt-leb 2048 (length b) h))

  module _ (r : 2048 ≤ length b) where
    pub call_malformed : asks a ≡ None → Promised t a b (result MalformedQuestion b)
    unfolding answer_of
    call_malformed h = promised t a b (rw (le-leb 2048 (length b) r, h))

    pub call_read : {q : Question} → asks a ≡ Some q → {o : Outcome} → o ≡ read_table t b (Some q) → Promised t a b o
    unfolding answer_of
    call_read g e = promised t a b (e ∙ rw (le-leb 2048 (length b) r, g))

-- whether the check of the question passed
module _ (command user groups host : List ℕ) (minute : WeekMinute) (last : (Option Age)) (args : List ℕ) where
  pub asks_none : {x : Bool} → x ≡ is_question (question_of command user groups host minute last args) → x ≡ false → asks (asking command user groups host minute last args) ≡ None
  asks_none e f = question_none command user groups host minute last args (sym e ∙ f)

  pub asks_some : {x : Bool} → x ≡ is_question (question_of command user groups host minute last args) → x ≡ true → (q : Question) × (asks (asking command user groups host minute last args) ≡ Some q)
  asks_some e f = question_some command user groups host minute last args (sym e ∙ f)
