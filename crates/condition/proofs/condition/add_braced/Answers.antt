use Rattle.std.specs.Prelude.{Err, None, Ok, Some}
use native.Mathlib.Omega.{arith}
use mathlib.Core.Bool.{false}
use mathlib.Core.Path.{◌≡◌, refl, sym, ◌∙◌}
use lib.ListN.{drop}
use lib.Seq.{length-take-le}
use Rattle.std.proofs.lemmas.Result.{err_from_is_err_and}
use Rattle.text.proofs.Buffers.{wrote_done, wrote_length}
use Rattle.pattern.specs.Tree.{pattern_of}
use Rattle.pattern.proofs.TopLevel.{numbers_are, never_full_at}
use Rattle.condition.specs.Contract.{expansions_from}
use Rattle.condition.proofs.AddedLaws.{each, each_end}
use Rattle.condition.proofs.condition.add_braced.Goals as goal

pub loop-k-init : goal.loop-k-init
loop-k-init c = let a = c.args in (refl, numbers_are (pattern_of a.syntax false (drop a.at a.p.now)) _ c.requires.numbers, refl)

pub slice_bounds-out-end : goal.slice_bounds-out-end
slice_bounds-out-end c =
    let w = c.put_alternative.ensures in
    let d : c.put_alternative.result ≡ Some c.in_ok-n.n = grind arith in
    omega (arith, (wrote_done w d).0, wrote_length w)

pub slice_bounds-add_one-end : goal.slice_bounds-add_one-end
slice_bounds-add_one-end c =
    let w = c.put_alternative.ensures in
    let d : c.put_alternative.result ≡ Some c.in_ok-n.n = grind arith in
    sym (length-take-le _ _ (omega (arith, (wrote_done w d).0, wrote_length w)))

pub loop-k-preserved : goal.loop-k-preserved
loop-k-preserved c =
    let l = c.loop-k in
    let a = c.args in
    let w = c.put_alternative.ensures in
    let d : c.put_alternative.result ≡ Some c.in_ok-n.n = grind arith in
    (wrote_length w ∙ l.invariant.0, l.invariant.1, each _ _ (expansions_from a.syntax a.p.now a.at) l.k (omega (arith, l.invariant.1)) w d (Ok _) c.in_ok-r.ensures ∙ l.invariant.2)

pub returns-in_err-r : goal.returns-in_err-r
returns-in_err-r c =
    let l = c.loop-k in
    let a = c.args in
    let d : c.put_alternative.result ≡ Some c.in_ok-n.n = grind arith in
    let p = err_from_is_err_and c.from_residual-in_err-r.result c.from_residual-in_err-r.ensures.1 in
    rw (p.1, p.2) (each _ _ (expansions_from a.syntax a.p.now a.at) l.k (omega (arith, l.invariant.1)) c.put_alternative.ensures d (Err _) c.in_err-r.ensures ∙ l.invariant.2)

pub returns-in_err-n : goal.returns-in_err-n
returns-in_err-n c =
    let a = c.args in
    let h = c.requires in
    let d : c.put_alternative.result ≡ None = grind arith in
    absurd (never_full_at a.syntax a.p.now a.at a.number c.loop-k.k h.numbers c.loop-k-test.true c.put_alternative.ensures (omega (arith, h.short)) d)

pub returns : goal.returns
returns c = let l = c.loop-k in let a = c.args in each_end _ _ (expansions_from a.syntax a.p.now a.at) l.k (omega (arith, l.invariant.1)) ∙ l.invariant.2
