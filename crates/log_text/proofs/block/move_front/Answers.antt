use Rattle.std.proofs.Common.{rules, arith}
use Rattle.log_text.proofs.LogLaws.{moved_on, moved_rest}
use Rattle.log_text.proofs.block.move_front.Goals as goal

pub loop-i-preserved : goal.loop-i-preserved
loop-i-preserved c = let l = c.loop-i in
    let a = c.args in
    (search rules, search rules, search rules, moved_on a.block.now l.block a.from l.i (omega arith) l.invariant.2 l.invariant.4 l.invariant.3, moved_rest a.block.now l.block a.from l.i (omega arith) l.invariant.2 l.invariant.4 _)
