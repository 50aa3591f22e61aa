use mathlib.Core.Path.{sym, ap, ◌∙◌}
use Prim.Native.Nat.{ℕ}
use native.Mathlib.Omega.{arith}
use lib.ListN.{take}
use lib.Seq.{length-take-le}
use Rattle.responder.proofs.SeriesLaws.{ends_none, ends_put}
use Rattle.responder.proofs.block.answer_last.Goals as goal

pub returns-then-no_line : goal.returns-then-no_line
returns-then-no_line c = let a = c.args in record { within = (omega arith, omega arith, omega arith); ends = ends_none _ _ (ap (λ (m : ℕ). take m a.line.now) c.if-no_line.true) }

pub returns : goal.returns
returns c = let a = c.args in
    let z = length-take-le a.progress.line a.line.now c.requires.0 in
    let e = c.add_answer.ensures in
    record { within = e.within; ends = ends_put _ _ (λ n. c.if-no_line.false (sym z ∙ n)) e.put }
