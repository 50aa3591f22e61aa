use mathlib.Core.Path.{refl}
use Rattle.summary.proofs.GatherLaws.{summary_on}
use Rattle.summary.proofs.gather.take_block.Goals as goal

pub returns : goal.returns
returns c = (λ bytes w e. rw c.past_sum.ensures (summary_on bytes _ w e c.feed-fed.ensures), refl, refl)
