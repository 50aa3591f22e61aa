use Rattle.std.proofs.Common.{sym, ◌∙◌}
use Rattle.record_log.proofs.RecogniseLaws.{record_good, record_bad, records_end}
use Rattle.record_log.proofs.recognise.all_records.Goals as goal

pub returns-then-not-is_record : goal.returns-then-not-is_record
returns-then-not-is_record c =
    let l = c.loop-bytes in
    let g = c.in-Some.ensures.steps in
    record_bad c.in-Some.bytes.now _ (g.1.1 ∙ l.invariant.0) g.1.0 (sym c.is_record.ensures ∙ c.if-not-is_record.true) ∙ l.invariant.1

pub loop-bytes-preserved : goal.loop-bytes-preserved
loop-bytes-preserved c =
    let l = c.loop-bytes in
    let g = c.in-Some.ensures.steps in
    (g.0 ∙ l.invariant.0, record_good c.in-Some.bytes.now _ (g.1.1 ∙ l.invariant.0) g.1.0 (sym c.is_record.ensures ∙ c.if-not-is_record.false) ∙ l.invariant.1)

pub returns : goal.returns
returns c =
    let l = c.loop-bytes in
    let g = c.in-None.ensures.steps in
    records_end _ (rw l.invariant.0 at g.1.0) ∙ l.invariant.1
