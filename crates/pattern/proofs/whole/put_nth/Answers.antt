use mathlib.Core.Path.{sym, ◌∙◌}
use native.Mathlib.Omega.{arith}
use Rattle.pattern.proofs.WholeLaws.{kth, kth_alone}
use Rattle.text.proofs.Buffers.{wrote_as}
use Rattle.pattern.proofs.whole.put_nth.Goals as goal

pub put_list-requires : goal.put_list-requires
put_list-requires c = (omega arith, omega arith, (kth _ _ _ _ c.requires.count c.requires.below).holds)

pub returns-then-commas_part : goal.returns-then-commas_part
returns-then-commas_part c = wrote_as c.put_list.ensures (kth _ _ _ _ c.requires.count c.requires.below).is

pub put_pattern-requires : goal.put_pattern-requires
put_pattern-requires c = let w = kth_alone _ _ _ _ (sym c.commas_part.ensures ∙ c.if-commas_part.false) c.requires.count c.requires.below in (omega arith, omega arith, w.numbers, w.few, c.requires.below)

pub returns : goal.returns
returns c = wrote_as c.put_pattern.ensures (kth_alone _ _ _ _ (sym c.commas_part.ensures ∙ c.if-commas_part.false) c.requires.count c.requires.below).is
