use native.Mathlib.Omega.{arith}
use Rattle.answer.proofs.grant.put_path.Goals as goal

pub returns : goal.returns
returns c = λ h. let a = c.args in c.put_end.ensures a.out.now 0 a.path.now c.put_all-filled.ensures (omega (arith, h))
