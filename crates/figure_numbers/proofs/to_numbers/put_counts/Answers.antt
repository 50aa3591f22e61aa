use mathlib.Core.Path.{◌≡◌}
use mathlib.Core.List.{map}
use Prim.Native.Nat.{ℕ}
use native.Mathlib.Omega.{arith}
use borrow.Author.Rules.{rules}
use lib.IntN.{ℤ, pos}
use lib.ListN.{length, length-map}
use Rattle.figure_numbers.proofs.Placing.{put_next, told_count}
use Rattle.figure_numbers.proofs.to_numbers.put_counts.Goals as goal

pub loop-i-preserved : goal.loop-i-preserved
loop-i-preserved c = let k = length-map {A = ℕ} {B = ℤ} c.args.counts.now (λ x. pos x) in
    let e = c.loop-i.invariant.1 in
    let h = c.requires in
    let t = c.loop-i-test.true in
    (search rules, search rules, put_next (pos 0) c.args.out.now (map {A = ℕ} {B = ℤ} (λ x. pos x) c.args.counts.now) _ c.args.at c.loop-i.i c.loop-i.invariant.2 (omega arith) (omega arith) (told_count c.args.counts.now c.loop-i.i (search rules) c.from.ensures))
