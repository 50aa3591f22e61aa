use Rattle.summary.specs.Summary.{summary_text}
use Rattle.summary.proofs.lines.put_summary.Goals as goal

pub returns : goal.returns
unfolding summary_text
returns c = c.then_records.ensures.behind _ _ _ (c.then_ages-ages.ensures.behind _ _ _ (c.then_hours-hours.ensures.behind _ _ _ (c.then_days-days.ensures.behind _ _ _ (c.then_answers-answers.ensures.behind _ _ _ c.put_all-start.ensures))))
