use mathlib.Core.Path.{ap}
use native.Mathlib.Omega.{arith}
use Rattle.responder.proofs.CountedLaws.{handed_halted}
use Rattle.responder.proofs.SeriesLaws.{ends_logged, stand_halted}
use Rattle.responder.proofs.BlockLaws.{ready_halted}
use Rattle.responder.specs.declared.lines.Run.{Run}
use Rattle.responder.proofs.lines.finish.Goals as goal

pub returns : goal.returns
returns c = let w = c.write_waiting-written in
    let e = c.stopped.ensures in
    let a = c.answer_last-last in
    let p = c.requires in record {
      ready = ready_halted w.result e (omega (arith, w.ensures.line, a.ensures.within.0), w.ensures.answers, w.ensures.records, p.3, omega (arith, p.4), omega (arith, p.5));
      finishes = record { waiting = _; ends = ends_logged _ _ c.is_open-is_open.ensures a.ensures.ends; handed = handed_halted e w.ensures.handed; left = stand_halted _ _ _ a.result w.result e w.ensures.line w.ensures.answers w.ensures.records; stops = ap (λ (r : Run). r.going) e };
    }
