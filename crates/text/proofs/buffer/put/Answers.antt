use mathlib.Core.Path.{refl, sym}
use native.Mathlib.Omega.{arith}
use Rattle.text.specs.Buffer.{laid}
use Rattle.text.proofs.Buffers.{laid_past, done_up, full_up}
use Rattle.text.proofs.buffer.put.Goals as goal

pub returns-then-n-out : goal.returns-then-n-out
returns-then-n-out c = record { answer = full_up _ _ (omega arith); bytes = sym (laid_past _ _ _ c.if-n-out.true) }

pub returns : goal.returns
unfolding laid
returns c = record { answer = done_up _ _ (omega arith); bytes = refl }
