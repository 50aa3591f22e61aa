use mathlib.Core.Path.{refl}
use Rattle.responder.proofs.CountedLaws.{handed_both}
use Rattle.text.proofs.Laws.{part_start}
use Rattle.responder.proofs.lines.write_waiting.Goals as goal

pub append_records-log-requires : goal.append_records-log-requires
append_records-log-requires c = part_start c.args.waiting.records c.args.records.now

pub write_answers-output-requires : goal.write_answers-output-requires
write_answers-output-requires c = part_start c.args.waiting.answers c.args.out.now

pub returns : goal.returns
returns c = record { line = refl; answers = refl; records = refl; handed = handed_both c.write_answers-output.ensures c.append_records-log.ensures; going = c.is_whole.ensures }
