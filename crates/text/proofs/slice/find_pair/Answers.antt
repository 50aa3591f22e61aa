use Rattle.std.proofs.Common.{◌∙◌, arith}
use Rattle.text.proofs.Slices.{pair_none, pair_here, pair_later, pair_end}
use Rattle.text.proofs.slice.find_pair.Goals as goal

pub returns-then-s-at-lt2 : goal.returns-then-s-at-lt2
returns-then-s-at-lt2 c = let b = c.byte_from-at.ensures in let k = b.2 (omega arith) in pair_none _ _ _ _ _ b.0 (omega arith) ∙ c.loop-i.invariant.1

pub returns-then-s-at : goal.returns-then-s-at
returns-then-s-at c = let b = c.byte_from-at.ensures in let k = b.2 (omega arith) in pair_here _ _ _ _ _ b.0 (omega arith) c.if-s-at.true ∙ c.loop-i.invariant.1

pub loop-i-preserved : goal.loop-i-preserved
loop-i-preserved c = let b = c.byte_from-at.ensures in let k = b.2 (omega arith) in (omega arith, pair_later _ _ _ _ _ b.0 (omega arith) c.if-s-at.false ∙ c.loop-i.invariant.1)

pub returns : goal.returns
returns c = pair_end _ _ _ c.loop-i.i (omega arith) ∙ c.loop-i.invariant.1
