use Rattle.std.proofs.lemmas.Result.{err_from_is_err_and}
use Rattle.entry_line.proofs.ReadLaws.{text_refused, text_added}
use Rattle.entry_line.proofs.read.add_field.Goals as goal

pub returns-in_err-text : goal.returns-in_err-text
returns-in_err-text c = λ t p e te h. let q = err_from_is_err_and c.from_residual.result c.from_residual.ensures.1 in rw (q.1, q.2) (text_refused _ _ _ c.in_err-text.ensures)

pub returns : goal.returns
returns c = λ t p e te h. text_added _ _ _ _ te c.in_ok-text.ensures (λ q. c.add.ensures t p e q h)
