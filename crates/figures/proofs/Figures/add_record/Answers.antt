use mathlib.Core.Path.{sym, ◌∙◌}
use Rattle.figures.proofs.Adding.{stored_low, record_stored, record_refused}
use Rattle.figures.proofs.Figures.add_record.Goals as goal

pub add_fields-requires : goal.add_fields-requires
add_fields-requires c = stored_low c.args.bytes.now _ (sym c.read_record.ensures ∙ c.in-Ok.is)

pub returns-in-Ok : goal.returns-in-Ok
returns-in-Ok c = record_stored c.args.self.now c.args.bytes.now _ (sym c.read_record.ensures ∙ c.in-Ok.is) c.add_fields.ensures

pub returns-in-Err : goal.returns-in-Err
returns-in-Err c = record_refused c.args.self.now c.args.bytes.now _ (sym c.read_record.ensures ∙ c.in-Err.is) c.add_refused.ensures
