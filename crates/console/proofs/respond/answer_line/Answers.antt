use native.Mathlib.Omega.{arith}
use Rattle.console.proofs.RespondLaws.{pieces_placed, malformed_told, asked_told}
use Rattle.console.proofs.respond.answer_line.Goals as goal

pub returns-in_default : goal.returns-in_default
returns-in_default c = malformed_told c.read_question_line.ensures _ _ c.in_default.is

pub slice_bounds-strings-end : goal.slice_bounds-strings-end
slice_bounds-strings-end c = omega (arith, c.read_question_line.ensures.size)

pub overflow_add-command : goal.overflow_add-command
overflow_add-command c = let w = pieces_placed c.read_question_line.ensures c.in-Some.is in omega (arith, w.0, w.1, w.2, w.3, w.4, w.5)

pub slice_bounds-answer-count-2 : goal.slice_bounds-answer-count-2
slice_bounds-answer-count-2 c = let w = pieces_placed c.read_question_line.ensures c.in-Some.is in omega (arith, w.0, w.1, w.2, w.3, w.4, w.5)

pub overflow_add-list : goal.overflow_add-list
overflow_add-list c = let w = pieces_placed c.read_question_line.ensures c.in-Some.is in omega (arith, w.0, w.1, w.2, w.3, w.4, w.5)

pub slice_bounds-answer-count-4 : goal.slice_bounds-answer-count-4
slice_bounds-answer-count-4 c = let w = pieces_placed c.read_question_line.ensures c.in-Some.is in omega (arith, w.0, w.1, w.2, w.3, w.4, w.5)

pub slice_bounds-answer-count-5 : goal.slice_bounds-answer-count-5
slice_bounds-answer-count-5 c = let w = pieces_placed c.read_question_line.ensures c.in-Some.is in omega (arith, w.0, w.1, w.2, w.3, w.4, w.5)

pub returns : goal.returns
returns c = asked_told c.read_question_line.ensures _ _ c.in-Some.is c.answer-told.ensures.meaning
