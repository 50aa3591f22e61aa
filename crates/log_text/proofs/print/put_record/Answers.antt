use Rattle.std.proofs.Common.{sym, ◌∙◌}
use Rattle.text.proofs.Buffers.{wrote_as}
use Rattle.log_text.proofs.PrintLaws.{record_shown, record_refused}
use Rattle.log_text.proofs.print.put_record.Goals as goal

pub returns-in-Ok : goal.returns-in-Ok
returns-in-Ok c = wrote_as c.put_fields.ensures (record_shown (sym c.read_record.ensures ∙ c.in-Ok.is))

pub returns-in-Err : goal.returns-in-Err
returns-in-Err c = wrote_as c.put_refused.ensures (record_refused (sym c.read_record.ensures ∙ c.in-Err.is) c.number.ensures)
