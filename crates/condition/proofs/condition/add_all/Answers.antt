use Rattle.std.specs.Prelude.{Err, None, Ok, Option, Some}
use mathlib.Core.Bool.{false}
use mathlib.Core.List.{List}
use mathlib.Core.Path.{◌≡◌, refl, sym, ap, ◌∙◌}
use Prim.Native.Nat.{ℕ, ◌≤◌}
use lib.ListN.{length, drop}
use native.Mathlib.Omega.{arith}
use Rattle.std.proofs.lemmas.Result.{err_from_is_err_and}
use Rattle.pattern.specs.Contract.{Few, alternative_from, end_told}
use Rattle.pattern.specs.Tree.{list_of}
use Rattle.pattern.specs.declared.Syntax.{Syntax}
use Rattle.pattern.specs.declared.alternatives.Alternative.{Alternative}
use Rattle.pattern.proofs.TopLevel.{First, first_told, no_alternative, whole_few, whole_all}
use Rattle.pattern.proofs.FlatLaws.{alternative_told}
use Rattle.condition.specs.Contract.{added_with, expansions_from}
use Rattle.condition.proofs.AddedLaws.{first, first_last, first_more}
use Rattle.condition.proofs.condition.add_all.Goals as goal

-- what is found at a place is the first alternative from there on, and it ends where `end` says
found_first : (syntax : Syntax) (p : List ℕ) (i : ℕ) → i ≤ length p → Few (list_of syntax false (drop i p)) → {o : Option Alternative} (found : Alternative) → o ≡ Some found → o ≡ alternative_from syntax p i
    → {end : ℕ} → end ≡ end_told found → First syntax p i end (expansions_from syntax p i)
found_first syntax p i within few found d e told = rw told (first_told syntax p i few found (alternative_told syntax p i within (sym d ∙ e)))

pub loop-found-init : goal.loop-found-init
loop-found-init c =
    let a = c.args in
    let h = c.requires.good in
    (omega arith, whole_few a.syntax a.p.now h, ap (added_with a.judging a.user.now a.groups.now a.host.now a.minute a.negated a.asks a.kept) (whole_all a.syntax a.p.now h))

pub returns-in_err-found : goal.returns-in_err-found
returns-in_err-found c =
    let l = c.loop-found in
    let d : c.alternative_at.result ≡ None = grind arith in
    absurd (no_alternative _ _ l.i l.invariant.1 (alternative_told _ _ l.i l.invariant.0 (sym d ∙ c.alternative_at.ensures)))

pub add_found-requires : goal.add_found-requires
add_found-requires c =
    let l = c.loop-found in
    let d : c.alternative_at.result ≡ Some c.in_ok-found.found = grind arith in
    record { short = c.requires.short; within = l.invariant.0; few = l.invariant.1; told = alternative_told _ _ _ l.invariant.0 (sym d ∙ c.alternative_at.ensures) }

pub returns-in_err-r : goal.returns-in_err-r
returns-in_err-r c =
    let l = c.loop-found in
    let d : c.alternative_at.result ≡ Some c.in_ok-found.found = grind arith in
    let p = err_from_is_err_and c.from_residual-in_err-r.result c.from_residual-in_err-r.ensures.1 in
    rw (p.1, p.2) (first _ _ _ _ _ _ _ (found_first _ _ _ l.invariant.0 l.invariant.1 _ d c.alternative_at.ensures refl) (Err _) c.in_err-r.ensures ∙ l.invariant.2)

pub returns-then-p-end : goal.returns-then-p-end
returns-then-p-end c =
    let l = c.loop-found in
    let d : c.alternative_at.result ≡ Some c.in_ok-found.found = grind arith in
    let o = found_first _ _ _ l.invariant.0 l.invariant.1 _ d c.alternative_at.ensures c.end-end.ensures in
    first_last _ _ _ _ _ _ _ o _ c.in_ok-r.ensures c.if-p-end.true ∙ l.invariant.2

pub loop-found-smaller : goal.loop-found-smaller
loop-found-smaller c =
    let l = c.loop-found in
    let d : c.alternative_at.result ≡ Some c.in_ok-found.found = grind arith in
    let o = found_first _ _ _ l.invariant.0 l.invariant.1 _ d c.alternative_at.ensures c.end-end.ensures in
    omega (arith, o.low, o.high)

pub loop-found-preserved : goal.loop-found-preserved
loop-found-preserved c =
    let l = c.loop-found in
    let d : c.alternative_at.result ≡ Some c.in_ok-found.found = grind arith in
    let o = found_first _ _ _ l.invariant.0 l.invariant.1 _ d c.alternative_at.ensures c.end-end.ensures in
    (omega (arith, o.high), (o.more c.if-p-end.false).1, first_more _ _ _ _ _ _ _ o _ c.in_ok-r.ensures c.if-p-end.false ∙ l.invariant.2)
