use borrow.Author.Rules.{rules}
use Rattle.record.proofs.Ages.{never_size, minutes_size}
use Rattle.record.proofs.age.size_of.Goals as goal

pub returns-in-None : goal.returns-in-None
returns-in-None c = never_size _ c.in-None.is

pub returns-in-Some : goal.returns-in-Some
returns-in-Some c = rw c.min.ensures (minutes_size _ _ c.in-Some.is (search rules) _ c.magnitude.ensures)
