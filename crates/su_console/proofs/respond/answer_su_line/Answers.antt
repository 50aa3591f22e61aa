use native.Mathlib.Omega.{arith}
use Rattle.su_console.proofs.RespondLaws.{malformed_answer, pieces_placed, asked_answer}
use Rattle.su_console.proofs.respond.answer_su_line.Goals as goal

pub returns-in_default : goal.returns-in_default
returns-in_default c = malformed_answer c.read_su_question_line.ensures _ c.in_default.is

pub overflow_add-target : goal.overflow_add-target
overflow_add-target c = let w = pieces_placed c.read_su_question_line.ensures c.in-Some.is in omega (arith, w.0, w.1)

pub slice_bounds-su_answer-count-2 : goal.slice_bounds-su_answer-count-2
slice_bounds-su_answer-count-2 c = let w = pieces_placed c.read_su_question_line.ensures c.in-Some.is in omega (arith, w.0, w.1)

pub returns : goal.returns
returns c = asked_answer c.read_su_question_line.ensures _ c.in-Some.is c.su_answer.ensures.meaning
