use Rattle.std.proofs.lemmas.Result.{err_from_is_err_and}
use Rattle.reader.proofs.DefineLaws.{line_fault, line_refused, line_placed}
use Rattle.reader.proofs.define.read_define.Goals as goal

pub returns-in_err-read : goal.returns-in_err-read
returns-in_err-read c = let q = err_from_is_err_and c.from_residual.result c.from_residual.ensures.1 in rw (q.1, q.2) (line_fault _ _ _ _ _ _ _ _ c.in_err-read.ensures.reading)

pub returns-in_err-goes : goal.returns-in_err-goes
returns-in_err-goes c = let q = err_from_is_err_and c.from_residual-in_err-goes.result c.from_residual-in_err-goes.ensures.1 in rw (q.1, q.2) (line_refused _ _ _ _ _ _ _ _ c.in_ok-read.read.name c.in_ok-read.read.text c.in_ok-read.ensures.reading c.in_err-goes.ensures)

pub returns : goal.returns
returns c = let r = c.in_ok-read.ensures in line_placed _ _ _ _ _ _ _ _ c.in_ok-read.read.name c.in_ok-read.read.text r.reading r.within.0 r.within.1 c.in_ok-goes.ensures
