use mathlib.Core.Path.{refl, ap}
use Prim.Native.Nat.{ℕ}
use native.Mathlib.Omega.{arith}
use lib.ListN.{take}
use Rattle.responder.proofs.SeriesLaws.{takes_newline, takes_other}
use Rattle.responder.proofs.block.take_byte.Goals as goal

pub add_answer-requires : goal.add_answer-requires
add_answer-requires c = let p = c.requires in (p.0.0, p.1.goes refl c.if-ends_line.true)

pub returns-then-ends_line : goal.returns-then-ends_line
returns-then-ends_line c = record { within = c.add_answer.ensures.within; takes = takes_newline _ _ c.if-ends_line.true c.add_answer.ensures.put }

pub returns : goal.returns
returns c = let a = c.args in
    let e = c.add_byte.ensures in
    record { within = (omega arith, omega arith, omega arith); takes = takes_other _ _ c.if-ends_line.false e.longer.bytes (ap (λ (m : ℕ). take m a.out.now) e.line_in_bounds.1) (ap (λ (m : ℕ). take m a.records.now) e.line_in_bounds.2) }
