-- Questions from hosts that differ in the case of letters only. Assumes nothing.
use Rattle.std.specs.Option.{option_and_then, option_map}
use Rattle.std.specs.Prelude.{None, Option, Some}
use Rattle.question.specs.declared.Age.{Age}
use mathlib.Core.Path.{◌≡◌, refl}
use mathlib.Core.Bool.{Bool, true, false, cond}
use mathlib.Core.List.{List}
use Prim.Native.Nat.{ℕ}
use Rattle.text.specs.Case.{Alike}
use Rattle.text.proofs.Cases.{alike_length, alike_names}
use Rattle.question.specs.declared.WeekMinute.{WeekMinute}
use Rattle.question.specs.Question.{Question, with_host, host_bytes, strings_of, good_name, good_question, if_good, question_of}

-- such hosts are both good, or neither is
name_alike : (most : ℕ) (h k : List ℕ) → Alike h k → good_name most k ≡ good_name most h
unfolding good_name
name_alike most h k w = rw (alike_length h k w, alike_names h k w)

good_alike : (h k : List ℕ) → Alike h k → (q : Question) → q.host ≡ h → good_question (with_host k q) ≡ good_question q
unfolding good_question
good_alike h k w q e = rw (e, name_alike host_bytes h k w)

-- a question from each of them, or from neither; all else of the two is the same
pub question_alike : (command user groups h k : List ℕ) (minute : WeekMinute) (age : (Option Age)) (args : List ℕ) → Alike h k → question_of command user groups k minute age args ≡ option_map (with_host k) (question_of command user groups h minute age args)
unfolding question_of
question_alike command user groups h k minute age args w = go (strings_of groups) (strings_of args)
  where
    by : (t u : Bool) (q : Question) → u ≡ t → cond u (Some (with_host k q)) None ≡ option_map (with_host k) (cond t (Some q) None)
    by true u q e = rw e
    by false u q e = rw e

    go : (g a : Option (List (List ℕ))) → option_and_then (λ gs. option_and_then (λ xs. if_good (record { command = command; user = user; groups = gs; host = k; minute = minute.0; age = age; args = xs })) a) g ≡ option_map (with_host k) (option_and_then (λ gs. option_and_then (λ xs. if_good (record { command = command; user = user; groups = gs; host = h; minute = minute.0; age = age; args = xs })) a) g)
    go None a = refl
    go (Some gs) None = refl
    go (Some gs) (Some xs) = let q : Question = record { command = command; user = user; groups = gs; host = h; minute = minute.0; age = age; args = xs } in by (good_question q) (good_question (with_host k q)) q (good_alike h k w q refl)
