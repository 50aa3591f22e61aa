use mathlib.Core.Logic.{inl, inr}
use Rattle.condition.proofs.JudgeLaws.{judged_user, judged_group}
use Rattle.condition.proofs.judge.judge.Goals as goal

pub returns-in-User : goal.returns-in-User
returns-in-User c = elim c.in-User.is [ inl p ↦ judged_user _ _ _ _ _ _ _ c.judge_name.ensures p | inr p ↦ judged_group _ _ _ _ _ _ _ c.judge_name.ensures p ]
