use Rattle.std.proofs.lemmas.Result.{err_from_is_err_and}
use Rattle.fault.proofs.Readings.{then_fault, then_value}
use mathlib.Core.Path.{refl}
use Rattle.variables.proofs.TextLaws.{text_fault, text_value}
use Rattle.reader.specs.Colon.{word_of}
use Rattle.reader.proofs.word.colon_word.Goals as goal

pub returns-in_err-n : goal.returns-in_err-n
returns-in_err-n c = let q = err_from_is_err_and c.from_residual.result c.from_residual.ensures.1 in rw (q.1, q.2) (then_fault word_of (text_fault c.in_err-n.ensures refl))

pub returns : goal.returns
returns c = then_value word_of (text_value c.in_ok-n.ensures refl) c.word_in.ensures
