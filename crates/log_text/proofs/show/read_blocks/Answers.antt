use mathlib.Core.Path.{refl, ap}
use mathlib.Core.List.{[]}
use Prim.Native.Nat.{ℕ}
use native.Mathlib.Omega.{arith}
use borrow.Author.Rules.{rules}
use borrow.Author.Tests.{not-false}
use lib.ListN.{take}
use Rattle.log_text.proofs.ReadLaws.{reads_start, reads_behind}
use Rattle.log_text.proofs.show.read_blocks.Goals as goal

pub loop-init : goal.loop-init
loop-init c = let s = c.start-run.ensures in (omega (arith, s.0), refl, refl, c.requires, ([], reads_start _ (ap (λ (n : ℕ). take n c.args.block.now) s.0) s.1 s.2))

pub take_loaded-run-requires : goal.take_loaded-run-requires
take_loaded-run-requires c = (c.read_behind-loaded.ensures.loaded, omega (arith, c.loop.invariant.0), search rules)

pub loop-preserved : goal.loop-preserved
loop-preserved c =
    let l = c.loop in
    let t = c.take_loaded-run.ensures in
    (t.begun_in_bounds, search rules, search rules, search rules, (_, reads_behind l.run.begun l.invariant.4.0 l.invariant.4.1 (not-false _ c.if-not-run.false) c.read_behind-loaded.ensures t.serves))
