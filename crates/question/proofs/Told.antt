-- What is known of a question that is good.
use Rattle.std.specs.Option.{option_and_then}
use Rattle.std.specs.Prelude.{None, Option, Some}
use Rattle.question.specs.declared.Age.{Age}
use mathlib.Core.Path.{◌≡◌, refl, sym, ap, ◌∙◌}
use mathlib.Core.Bool.{true, false}
use mathlib.Core.List.{List}
use Prim.Native.Nat.{ℕ, ◌<◌}
use borrow.Author.Tests.{ltb-true}
use lib.Dec.{ltb}
use Rattle.text.proofs.Laws.{both_true, chosen, clash}
use Rattle.question.specs.declared.WeekMinute.{WeekMinute}
use Rattle.question.specs.Question.{Question, user_bytes, host_bytes, most_groups, most_arguments, week_minutes, strings_of, good_command, good_name, good_argument, good_strings, good_question, if_good, question_of}
use Rattle.question.specs.Contract.{is_question}

-- the question's parts are the caller's bytes, and it is good
pub record Told (command user groups host : List ℕ) (minute : WeekMinute) (age : (Option Age)) (args : List ℕ) (q : Question) : Type 0 where
  pub its_command_law : q.command ≡ command
  pub its_user_law : q.user ≡ user
  pub its_groups_law : strings_of groups ≡ Some q.groups
  pub its_host_law : q.host ≡ host
  pub its_minute_law : q.minute ≡ minute.0
  pub its_age_law : q.age ≡ age
  pub its_args_law : strings_of args ≡ Some q.args
  pub good : good_question q ≡ true

module _ (command user groups host : List ℕ) (minute : WeekMinute) (age : (Option Age)) (args : List ℕ) where
  pub question_told : (q : Question) → question_of command user groups host minute age args ≡ Some q → Told command user groups host minute age args q
  unfolding question_of
  question_told q = go (strings_of groups) (strings_of args) refl refl
    where
      go : (g a : Option (List (List ℕ))) → strings_of groups ≡ g → strings_of args ≡ a → option_and_then (λ gs. option_and_then (λ xs. if_good (record { command = command; user = user; groups = gs; host = host; minute = minute.0; age = age; args = xs })) a) g ≡ Some q → Told command user groups host minute age args q
      go None a i j e = clash cc
      go (Some gs) None i j e = clash cc
      go (Some gs) (Some xs) i j e =
          let p : Question = record { command = command; user = user; groups = gs; host = host; minute = minute.0; age = age; args = xs } in
          let c = chosen (good_question p) (Some p) q e in
          let d = c.1 in
          let t : (good_question p ≡ true) × (p ≡ q) = (c.0, cc) in
          record {
            its_command_law = ap (λ x. x.command) (sym t.1);
            its_user_law = ap (λ x. x.user) (sym t.1);
            its_groups_law = i ∙ ap (λ x. Some x.groups) t.1;
            its_host_law = ap (λ x. x.host) (sym t.1);
            its_minute_law = ap (λ x. x.minute) (sym t.1);
            its_age_law = ap (λ x. x.age) (sym t.1);
            its_args_law = j ∙ ap (λ x. Some x.args) t.1;
            good = ap good_question (sym t.1) ∙ t.0;
          }

  -- a check that passed has a question
  pub question_some : is_question (question_of command user groups host minute age args) ≡ true → (q : Question) × (question_of command user groups host minute age args ≡ Some q)
  question_some = go (question_of command user groups host minute age args)
    where
      go : (o : Option Question) → is_question o ≡ true → (q : Question) × (o ≡ Some q)
      go None e = clash cc
      go (Some q) e = (q, refl)

  pub question_none : is_question (question_of command user groups host minute age args) ≡ false → question_of command user groups host minute age args ≡ None
  question_none = go (question_of command user groups host minute age args)
    where
      go : (o : Option Question) → is_question o ≡ false → o ≡ None
      go None e = refl
      go (Some q) e = cc

-- each rule of a good question
pub record Good (q : Question) : Type 0 where
  pub command : good_command q.command ≡ true
  pub user : good_name user_bytes q.user ≡ true
  pub groups : good_strings most_groups (good_name user_bytes) q.groups ≡ true
  pub host : good_name host_bytes q.host ≡ true
  pub minute : q.minute < week_minutes
  pub args : good_strings most_arguments good_argument q.args ≡ true

pub good_told : (q : Question) → good_question q ≡ true → Good q
unfolding good_question
good_told q e =
    let a = both_true (good_command q.command) _ e in
    let b = both_true (good_name user_bytes q.user) _ a.1 in
    let d = both_true (good_strings most_groups (good_name user_bytes) q.groups) _ b.1 in
    let f = both_true (good_name host_bytes q.host) _ d.1 in
    let g = both_true (ltb q.minute week_minutes) _ f.1 in
    record { command = a.0; user = b.0; groups = d.0; host = f.0; minute = ltb-true q.minute week_minutes g.0; args = g.1 }
