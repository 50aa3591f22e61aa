use Rattle.std.proofs.lemmas.Result.{err_from_is_err_and}
use mathlib.Core.Path.{refl}
use Rattle.reader.proofs.StateLaws.{global_fault, global_good}
use Rattle.reader.proofs.state.Reader.global.Goals as goal

pub returns-in_err-read : goal.returns-in_err-read
returns-in_err-read c = let q = err_from_is_err_and c.from_residual.result c.from_residual.ensures.1 in rw (q.1, q.2) (record { changes_each = λ s k v. global_fault _ _ _ _ _ _ k v (c.in_err-read.ensures.reads_with s.arguments k.failures) })

pub returns-then-self : goal.returns-then-self
returns-then-self c = record { changes_each = λ s k v. global_good _ _ _ _ _ _ k v (c.in_ok-read.ensures.reads_with s.arguments k.failures) c.over.ensures refl (rw c.if-self.true refl) }

pub returns-else-self : goal.returns-else-self
returns-else-self c = record { changes_each = λ s k v. global_good _ _ _ _ _ _ k v (c.in_ok-read.ensures.reads_with s.arguments k.failures) c.over.ensures refl (rw c.if-self.false c.shell.ensures) }
