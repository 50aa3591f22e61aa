-- A question is good where each of its parts is.
use Rattle.std.specs.Option.{option_and_then}
use Rattle.std.specs.Prelude.{None, Option, Some}
use Rattle.question.specs.declared.Age.{Age}
use mathlib.Core.Path.{◌≡◌, refl}
use mathlib.Core.Bool.{Bool, true, false, cond, ◌&&◌}
use mathlib.Core.List.{List}
use Prim.Native.Nat.{ℕ}
use lib.Dec.{ltb}
use Rattle.text.proofs.Laws.{both_no}
use Rattle.question.specs.declared.WeekMinute.{WeekMinute}
use Rattle.question.specs.Question.{Question, user_bytes, host_bytes, most_groups, most_arguments, week_minutes, strings_of, good_command, good_name, good_argument, good_strings, good_question, if_good, question_of}
use Rattle.question.specs.Contract.{when_strings, is_question}

-- a question is good where each of its parts is
abbrev pub good_groups : List ℕ → Bool
good_groups s = when_strings (good_strings most_groups (good_name user_bytes)) (strings_of s)

abbrev pub good_arguments : List ℕ → Bool
good_arguments s = when_strings (good_strings most_arguments good_argument) (strings_of s)

module _ (command user groups host : List ℕ) (minute : WeekMinute) (age : (Option Age)) (args : List ℕ) where
  pub question_is : is_question (question_of command user groups host minute age args) ≡ good_command command && (good_name user_bytes user && (good_groups groups && (good_name host_bytes host && (ltb minute.0 week_minutes && good_arguments args))))
  unfolding question_of good_question
  question_is = go (strings_of groups) (strings_of args)
    where
      told : (t : Bool) (q : Question) → is_question (cond t (Some q) None) ≡ t
      told true q = refl
      told false q = refl

      no : (a b : Bool) → false ≡ a && (b && false)
      no a b = rw (both_no b, both_no a)

      go : (g a : Option (List (List ℕ))) → is_question (option_and_then (λ gs. option_and_then (λ xs. if_good (record { command = command; user = user; groups = gs; host = host; minute = minute.0; age = age; args = xs })) a) g) ≡ good_command command && (good_name user_bytes user && (when_strings (good_strings most_groups (good_name user_bytes)) g && (good_name host_bytes host && (ltb minute.0 week_minutes && when_strings (good_strings most_arguments good_argument) a))))
      go None a = no (good_command command) (good_name user_bytes user)
      go (Some gs) None = rw (both_no (ltb minute.0 week_minutes), both_no (good_name host_bytes host), both_no (good_strings most_groups (good_name user_bytes) gs)) (no (good_command command) (good_name user_bytes user))
      go (Some gs) (Some xs) = told _ _
