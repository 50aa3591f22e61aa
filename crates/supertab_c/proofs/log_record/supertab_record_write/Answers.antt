use Rattle.supertab_c.proofs.RecordLaws.{record_written, written, refused}
use Rattle.supertab_c.proofs.log_record.supertab_record_write.Goals as goal

pub returns-in-Ok : goal.returns-in-Ok
returns-in-Ok c = let a = c.args in record_written a.number a.line _ _ _ a.age a.out.now c.minute_of-week_minute.ensures c.ranges.age c.last_of-last.ensures c.write_record.ensures (written c.in-Ok.is)

pub returns-in-Err : goal.returns-in-Err
returns-in-Err c = let a = c.args in record_written a.number a.line _ _ _ a.age a.out.now c.minute_of-week_minute.ensures c.ranges.age c.last_of-last.ensures c.write_record.ensures (refused c.in-Err.is c.number.ensures)
