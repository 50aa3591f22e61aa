use Rattle.std.proofs.Common.{◌≡◌, length, sym, arith, refl, length-set, ◌∙◌, ◌+◌}
use native.Mathlib.Numerals.{unary_clauses}
use Rattle.text.proofs.Buffers.{done_up, full_up, laid_next, laid_end, laid_past}
use Rattle.text.proofs.buffer.put_all.Goals as goal

pub returns-then-n-out : goal.returns-then-n-out
returns-then-n-out c = record { answer = full_up _ _ (omega arith); bytes = sym (laid_past _ _ _ (omega arith)) }

pub loop-i-init : goal.loop-i-init
loop-i-init c = (refl, simp unary_clauses refl)

pub loop-i-preserved : goal.loop-i-preserved
loop-i-preserved c = let l = c.loop-i in (simp length-set l.invariant.0, laid_next _ _ _ _ (omega arith) ∙ l.invariant.1)

pub returns-then-m-s : goal.returns-then-m-s
returns-then-m-s c = let l = c.loop-i in record { answer = full_up _ _ (omega arith); bytes = sym (laid_past _ _ _ (omega arith)) ∙ l.invariant.1 }

pub returns : goal.returns
returns c =
    let l = c.loop-i in
    let a = c.args in
    let e : c.min-m.result ≡ length a.s.now = omega arith in
    record { answer = rw e (done_up _ _ (omega arith)); bytes = sym (laid_end l.out (a.n + l.i) a.s.now l.i (omega arith)) ∙ l.invariant.1 }
