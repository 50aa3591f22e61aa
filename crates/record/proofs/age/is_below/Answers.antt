use borrow.Author.Rules.{rules}
use Rattle.record.proofs.Ages.{never_sign, minutes_sign}
use Rattle.record.proofs.age.is_below.Goals as goal

pub returns-in-None : goal.returns-in-None
returns-in-None c = never_sign _ c.in-None.is

pub returns-in-Some : goal.returns-in-Some
returns-in-Some c = minutes_sign _ _ c.in-Some.is (search rules)
