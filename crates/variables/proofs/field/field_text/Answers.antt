use Rattle.std.specs.Prelude.{Err}
use Rattle.std.proofs.lemmas.Result.{err_from_is_err_and}
use mathlib.Core.Path.{◌≡◌}
use Prim.Native.Nat.{◌+◌}
use native.Mathlib.Omega.{arith}
use Rattle.fault.specs.declared.Cause.TheVariants.{Variable}
use Rattle.variables.proofs.FieldLaws.{refers_rest, writes_known, writes_bad, writes_text, writes_long, substitutes}
use Rattle.variables.proofs.field.field_text.Goals as goal

pub returns-in_err-known : goal.returns-in_err-known
returns-in_err-known c =
    let run = c.loop-run.run in let i = c.loop-run.invariant in let h = c.loop-run-test.true in
    let none = c.in_err-known.ensures.ok_part in
    let w = refers_rest _ c.args.field.now (run.at + 1) none c.put_reference-referred.ensures in
    let p = err_from_is_err_and c.from_residual.result c.from_residual.ensures.1 in
    let told = rw none at c.in_err-known.ensures.value in
    let e : c.from_residual.result ≡ Err Variable = cc (p.1, p.2, told) in
    rw e (substitutes (omega arith) (c.text_run-run.ensures.onward _ _ _ (i.4 _ _ (writes_bad _ run.quoting c.args.field.now run.at h (i.3 h) w.0))))

pub loop-run-preserved : goal.loop-run-preserved
loop-run-preserved c =
    let run = c.loop-run.run in let i = c.loop-run.invariant in let h = c.loop-run-test.true in
    let w = refers_rest _ c.args.field.now (run.at + 1) c.in_ok-known.ensures.ok_part c.put_reference-referred.ensures in
    let t = c.text_run-run-in-loop-run.ensures in
    (t.high, t.small, t.size, t.stops, λ last a v. i.4 last a (writes_known _ run.quoting c.args.field.now run.at h i.2 (i.3 h) w.0 (t.onward _ last a v)))

pub returns-then-run-gt-BYTES : goal.returns-then-run-gt-BYTES
returns-then-run-gt-BYTES c = let l = c.loop-run in substitutes (omega arith) (c.text_run-run.ensures.onward _ _ _ (l.invariant.4 _ _ (writes_long _ l.run.quoting _ l.run.at c.loop-run-test.false _ _ c.if-run-gt-BYTES.true)))

pub returns-else-run-gt-BYTES : goal.returns-else-run-gt-BYTES
returns-else-run-gt-BYTES c = let l = c.loop-run in substitutes (omega arith) (c.text_run-run.ensures.onward _ _ _ (l.invariant.4 _ _ (writes_text _ l.run.quoting _ l.run.at c.loop-run-test.false _ _ c.if-run-gt-BYTES.false)))
