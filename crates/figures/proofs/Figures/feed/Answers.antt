use mathlib.Core.Path.{refl, ◌∙◌}
use Rattle.figures.proofs.Adding.{room_most}
use Rattle.figures.proofs.Batches.{all_on, all_start, all_end, feeds_not, feeds_past, feeds_all}
use Rattle.figures.proofs.Figures.feed.Goals as goal

pub returns-then-batch-ne0 : goal.returns-then-batch-ne0
returns-then-batch-ne0 c = feeds_not c.args.self.now c.args.batch.now c.if-batch-ne0.true

pub loop-k-init : goal.loop-k-init
loop-k-init c = let room = c.room_for-taken in (refl, room_most _ _ _ room.ensures, all_start c.args.self.now c.args.batch.now room.result)

pub loop-k-preserved : goal.loop-k-preserved
loop-k-preserved c = let l = c.loop-k in
    let on = all_on l.self c.args.batch.now c.room_for-taken.result l.k c.loop-k-test.true in
    (refl, l.invariant.1, rw c.add_record.ensures (on ∙ l.invariant.2))

pub returns-then-taken-records : goal.returns-then-taken-records
returns-then-taken-records c = let a = c.args in
    let room = c.room_for-taken in
    let l = c.loop-k in
    feeds_past a.self.now a.batch.now c.if-batch-ne0.false l.self room.result room.ensures (all_end l.self a.batch.now room.result l.k c.loop-k-test.false ∙ l.invariant.2) c.if-taken-records.true

pub returns : goal.returns
returns c = let a = c.args in
    let room = c.room_for-taken in
    let l = c.loop-k in
    feeds_all a.self.now a.batch.now c.if-batch-ne0.false l.self room.result room.ensures (all_end l.self a.batch.now room.result l.k c.loop-k-test.false ∙ l.invariant.2) c.if-taken-records.false
