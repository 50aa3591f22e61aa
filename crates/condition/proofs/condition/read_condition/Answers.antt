use mathlib.Core.Path.{◌∙◌}
use Rattle.text.proofs.Laws.{part_rest}
use Rattle.condition.specs.Contract.{judge_by}
use Rattle.condition.proofs.ReadLaws.{read_long, read_marked}
use Rattle.condition.proofs.condition.read_condition.Goals as goal

pub returns-then-text-gt-BYTES : goal.returns-then-text-gt-BYTES
unfolding judge_by
returns-then-text-gt-BYTES c = let a = c.args in read_long (judge_by a.judging a.user.now a.groups.now a.host.now a.minute.0) a.text.now _ _ c.if-text-gt-BYTES.true

pub returns : goal.returns
unfolding judge_by
returns c = rw part_rest at c.read_behind.ensures ∙ read_marked _ _ _ _ c.if-text-gt-BYTES.false _ c.past_head-from.ensures.0
