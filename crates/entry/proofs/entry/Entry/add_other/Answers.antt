use mathlib.Core.Path.{refl}
use Rattle.std.proofs.lemmas.Result.{err_from_is_err_and}
use Rattle.question.specs.Contract.{strings_in}
use Rattle.condition.specs.Condition.{judge_of}
use Rattle.entry.proofs.AddLaws.{other_as}
use Rattle.entry.proofs.entry.Entry.add_other.Goals as goal

pub returns-in_err-setting : goal.returns-in_err-setting
returns-in_err-setting c = λ j k t e h. let p = err_from_is_err_and c.from_residual.result c.from_residual.ensures.1 in rw (p.1, p.2) (other_as _ _ c.in_err-setting.ensures (record { adds = refl }))

pub returns-in-Some : goal.returns-in-Some
returns-in-Some c = λ j k t e h. other_as _ _ (rw c.in-Some.is at c.in_ok-setting.ensures) (c.add_option.ensures (judge_of c.args.user.now (strings_in c.args.groups.now) c.args.host.now c.args.minute.0) _ j k t e h)

pub returns-in-None : goal.returns-in-None
returns-in-None c = λ j k t e h. other_as _ _ (rw c.in-None.is at c.in_ok-setting.ensures) (c.add_condition.ensures j k t e h)
