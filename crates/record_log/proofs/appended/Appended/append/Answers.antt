use Rattle.std.proofs.Common.{arith, length-take}
use Rattle.record_log.proofs.AppendLaws.{appends_none}
use Rattle.record_log.proofs.appended.Appended.append.Goals as goal

pub returns-then-count-eq0 : goal.returns-then-count-eq0
returns-then-count-eq0 c = let a = c.args in appends_none a.waiting a.records.now a.self (omega (arith, length-take a.waiting a.records.now)) (omega arith)
