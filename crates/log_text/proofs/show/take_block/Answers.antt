use mathlib.Core.Path.{refl}
use native.Mathlib.Omega.{arith}
use Rattle.log_text.proofs.LogLaws.{left_moved}
use Rattle.log_text.proofs.show.take_block.Goals as goal

pub returns : goal.returns
returns c = let a = c.args in
    let p = c.requires in
    record { begun_in_bounds = omega arith; follows = record { left_over = left_moved a.block.now _ a.end p.0 c.move_front.ensures; lines = c.print_records-output.ensures; going = c.is_whole.ensures; ended = refl } }
