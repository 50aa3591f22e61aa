use mathlib.Core.Path.{refl, ◌∙◌}
use mathlib.Core.List.{map}
use Prim.Native.Nat.{◌+◌}
use native.Mathlib.Omega.{arith}
use borrow.Author.Rules.{rules}
use lib.IntN.{pos}
use lib.ListN.{length, take, drop}
use lib.Seq.{paste-zero}
use Rattle.figure_numbers.specs.Numbers.{count_in}
use Rattle.figure_numbers.proofs.Placing.{put_first, paste_all, told_at, count_next, counts_length}
use Rattle.figure_numbers.proofs.from_numbers.counts_from.Goals as goal

pub loop-i-init : goal.loop-i-init
loop-i-init c = (omega arith, refl, paste-zero c.args.counts.now 0 (map count_in (take (length c.args.counts.now) (drop c.args.at c.args.numbers.now))))

pub loop-i-preserved : goal.loop-i-preserved
loop-i-preserved c = let n = length c.args.counts.now in
    let k = counts_length count_in c.args.numbers.now c.args.at n c.requires in
    let e = c.loop-i.invariant.1 in
    let t = c.loop-i-test.true in
    (omega arith, search rules, put_first (count_in (pos 0)) c.args.counts.now (map count_in (take n (drop c.args.at c.args.numbers.now))) _ c.loop-i.i c.loop-i.invariant.2 (omega arith) (omega arith) (c.count_in.ensures ∙ told_at count_in c.args.numbers.now (c.args.at + c.loop-i.i) record { sfits = c.count_in-arg-1.given } ∙ count_next count_in c.args.numbers.now c.args.at n c.loop-i.i (omega arith)))

pub returns : goal.returns
returns c = let n = length c.args.counts.now in
    let k = counts_length count_in c.args.numbers.now c.args.at n c.requires in
    let e = c.loop-i.invariant.1 in
    let t = c.loop-i-test.false in
    paste_all c.args.counts.now (map count_in (take n (drop c.args.at c.args.numbers.now))) _ c.loop-i.i c.loop-i.invariant.2 k (omega arith)
