use Rattle.supertab_c.proofs.RecordLaws.{read_short, read_stored, read_refused}
use Rattle.supertab_c.proofs.log_record.supertab_record_read.Goals as goal

pub returns-then-fields-lt-LENGTH : goal.returns-then-fields-lt-LENGTH
returns-then-fields-lt-LENGTH c = read_short _ c.args.fields.now c.if-fields-lt-LENGTH.true

pub returns-in-Ok : goal.returns-in-Ok
returns-in-Ok c = read_stored _ c.args.fields.now c.if-fields-lt-LENGTH.false _ c.read_record.ensures _ _ c.in-Ok.is c.put_fields.ensures

pub returns-in-Err : goal.returns-in-Err
returns-in-Err c = read_refused _ c.args.fields.now c.if-fields-lt-LENGTH.false _ c.read_record.ensures _ _ c.in-Err.is c.number.ensures
