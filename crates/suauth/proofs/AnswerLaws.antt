-- The checks before the lines, in their order.
use Rattle.std.proofs.Common.{◌≡◌, ℕ, List, Bool, true, false, cond, ◌&&◌, None, Some, Option, refl, sym}
use Rattle.std.specs.Option.{option_and_then}
use Rattle.text.proofs.Laws.{both_no}
use Rattle.question.specs.Question.{strings_of, most_groups, user_bytes, good_name, good_strings}
use Rattle.question.specs.Contract.{when_strings}
use Rattle.question.proofs.Forms.{good_groups}
use Rattle.question.proofs.ZeroEnded.{strings_in_law}
use Rattle.line.specs.Whole.{acceptance_of}
use Rattle.suauth.specs.declared.SuAnswer.{SuAnswer}
use Rattle.suauth.specs.declared.SuAnswer.TheVariants.{MalformedQuestion}
use Rattle.suauth.specs.Meaning.{Question, good_question, if_good, question_of, read_bytes, read_file, answer_of}
use Rattle.suauth.specs.Contract.{asking, question_in, is_question}

module _ (target user groups : List ℕ) where
  -- a question is good where each of its parts is
  pub question_is : is_question (question_of (asking target user groups)) ≡ good_name user_bytes target && (good_name user_bytes user && good_groups groups)
  unfolding question_of good_question
  question_is = go (strings_of groups)
    where
      told : (t : Bool) (q : Question) → is_question (cond t (Some q) None) ≡ t
      told true q = refl
      told false q = refl

      go : (o : Option (List (List ℕ))) → is_question (option_and_then (λ gs. if_good (record { target = target; user = user; groups = gs })) o) ≡ good_name user_bytes target && (good_name user_bytes user && when_strings (good_strings most_groups (good_name user_bytes)) o)
      go None = sym (rw (both_no (good_name user_bytes user), both_no (good_name user_bytes target)))
      go (Some gs) = told _ _

  -- what is read of the file is read by whether there is a question
  pub answer_is : (t : List ℕ) → answer_of t (asking target user groups) ≡ cond (is_question (question_of (asking target user groups))) (read_bytes t (question_in target user groups) (acceptance_of t)) MalformedQuestion
  unfolding answer_of question_of
  answer_is t = by (strings_of groups) refl
    where
      told : (b : Bool) (gs : List (List ℕ)) → strings_of groups ≡ Some gs → read_file t (cond b (Some (record { target = target; user = user; groups = gs })) None) ≡ cond (is_question (cond b (Some (record { target = target; user = user; groups = gs })) None)) (read_bytes t (question_in target user groups) (acceptance_of t)) MalformedQuestion
      told true gs h = rw (strings_in_law groups gs h)
      told false gs h = refl

      by : (o : Option (List (List ℕ))) → strings_of groups ≡ o → read_file t (option_and_then (λ gs. if_good (record { target = target; user = user; groups = gs })) o) ≡ cond (is_question (option_and_then (λ gs. if_good (record { target = target; user = user; groups = gs })) o)) (read_bytes t (question_in target user groups) (acceptance_of t)) MalformedQuestion
      by None h = refl
      by (Some gs) h = told (good_question (record { target = target; user = user; groups = gs })) gs h
