use Rattle.pattern.proofs.TopLevel.{braced_few, braced_numbers}
use Rattle.condition.proofs.condition.add_found.Goals as goal

pub add_braced-requires : goal.add_braced-requires
add_braced-requires c = let h = c.requires in let a = c.args in let w = rw c.in-Braced.is at h.told in record { short = h.short; within = h.within; numbers = braced_numbers a.syntax a.p.now a.at h.few _ _ w; few = braced_few a.syntax a.p.now a.at h.few _ _ w }
