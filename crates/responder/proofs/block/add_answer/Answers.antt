use mathlib.Core.Path.{◌≡◌, refl, ap, ◌∙◌}
use mathlib.Core.Bool.{cond}
use mathlib.Core.List.{[], ◌++◌}
use Prim.Native.Nat.{ℕ, ◌-◌, ◌≤◌}
use native.Mathlib.Omega.{arith}
use lib.ListN.{length, take}
use Rattle.text.proofs.Laws.{part_length}
use Rattle.responder.specs.Responses.{response_from, logged_from}
use Rattle.responder.proofs.BlockLaws.{end_most, response_room, response_behind, record_room, record_behind, small_buffer}
use Rattle.responder.proofs.SourceLaws.{logged_short}
use Rattle.responder.proofs.block.add_answer.Goals as goal

pub slice_bounds-respond_from-end-3 : goal.slice_bounds-respond_from-end-3
slice_bounds-respond_from-end-3 c = let a = c.args in omega (arith, c.record_end-end.ensures, end_most a.progress.records a.logged)

pub overflow_add-result : goal.overflow_add-result
overflow_add-result c = let h = response_room _ _ _ _ _ _ c.respond_from.ensures c.in-Some.is in omega (arith, h)

pub overflow_add-result-in-Some : goal.overflow_add-result-in-Some
overflow_add-result-in-Some c = let a = c.args in
    let w = a.progress.records in
    let e = c.record_end-end in
    let g : e.result ≤ length a.records.now = omega (arith, e.ensures, end_most w a.logged, c.requires.1.1) in
    let z : e.result - w ≡ cond a.logged 8 0 = omega (arith, e.ensures) in
    let p = part_length a.records.now w e.result g in
    omega (arith, p, record_room _ _ _ _ _ _ c.respond_from.ensures c.in-Some.is (logged_short _ _ _) a.logged (p ∙ z))

pub returns-in-Some : goal.returns-in-Some
returns-in-Some c = let a = c.args in
    let w = a.progress.records in
    let e = c.record_end-end in
    let g : e.result ≤ length a.records.now = omega (arith, e.ensures, end_most w a.logged, c.requires.1.1) in
    let z : e.result - w ≡ cond a.logged 8 0 = omega (arith, e.ensures) in
    let p = part_length a.records.now w e.result g in
    let h = c.respond_from.ensures in
    let k = c.in-Some.is in
    let cut : a.progress.line - 0 ≡ a.progress.line = omega arith in record {
      within = (omega arith, omega (arith, response_room _ _ _ _ _ _ h k), omega (arith, p, record_room _ _ _ _ _ _ h k (logged_short _ _ _) a.logged (p ∙ z)));
      put = record {
        line = refl;
        answers = response_behind _ _ _ _ _ _ h k _ _ _ (omega arith) ∙ ap (λ (m : ℕ). take a.progress.answers a.out.now ++ response_from a.source a.file.now (take m a.line.now)) cut;
        records = record_behind _ _ _ _ _ _ h k (logged_short _ _ _) a.logged (p ∙ z) _ _ _ (omega arith) ∙ ap (λ (m : ℕ). take w a.records.now ++ cond a.logged (logged_from a.source a.file.now (take m a.line.now)) []) cut;
      };
    }

pub returns-in-None : goal.returns-in-None
returns-in-None c = let h = small_buffer _ _ _ _ _ _ c.respond_from.ensures c.in-None.is in absurd (omega (arith, h))
