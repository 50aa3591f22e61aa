use native.Mathlib.Omega.{arith}
use Rattle.figures.proofs.Reporting.{sum_of}
use Rattle.figures.proofs.Figures.below_zero_sum.Goals as goal

pub returns : goal.returns
returns c = sum_of c.min.result (omega (arith, c.min.ensures)) c.args.self c.min.ensures
