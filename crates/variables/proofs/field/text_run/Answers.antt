use mathlib.Core.Path.{◌≡◌, sym, ◌∙◌}
use lib.ListN.{length}
use native.Mathlib.Omega.{arith}
use Rattle.variables.proofs.FieldLaws.{lays_length, writes_plain}
use Rattle.variables.proofs.field.text_run.Goals as goal

pub loop-i-preserved : goal.loop-i-preserved
loop-i-preserved c = let l = c.loop-i in let p = c.put_byte-m.ensures in let e = c.quoting_after-q.ensures in let h = c.loop-i-test.true in let t = sym c.is_reference.ensures ∙ c.if-is_reference.false in let k = lays_length p in (k.1, k.0 ∙ l.invariant.1, l.invariant.2, λ s last a w. l.invariant.3 s last a (writes_plain s l.q _ l.i h l.invariant.1 t p (rw e at w)))

pub returns : goal.returns
returns c =
    let l = c.loop-i in
    let z : length c.args.field.now ≡ l.i = omega arith in
    record { low = omega arith; high = omega arith; small = l.invariant.0; size = l.invariant.1; stops = λ h. absurd (omega arith); onward = λ s last a w. l.invariant.3 s last a (rw z at w) }
