use mathlib.Core.Path.{refl}
use native.Mathlib.Omega.{arith}
use lib.ListN.{length-drop}
use lib.Seq.{take-add}
use Rattle.streams.proofs.InputLaws.{loaded_bytes}
use Rattle.log_text.proofs.ReadLaws.{serves_failed, serves_end, serves_bytes}
use Rattle.log_text.proofs.show.take_loaded.Goals as goal

pub returns-then-n-eq0 : goal.returns-then-n-eq0
returns-then-n-eq0 c = record { begun_in_bounds = omega arith; serves = serves_end c.in-Some.is c.if-n-eq0.true (record { last = c.print_last-last.ensures; going = refl; ended = refl }) }

pub overflow_add-begun : goal.overflow_add-begun
overflow_add-begun c = let a = c.args in
    let h = loaded_bytes c.requires.0 c.in-Some.is in
    let z = length-drop a.run.begun a.block.now in
    omega (arith, h.0, z, c.requires.1)

pub take_block-requires : goal.take_block-requires
take_block-requires c = let a = c.args in
    let h = loaded_bytes c.requires.0 c.in-Some.is in
    let z = length-drop a.run.begun a.block.now in
    (omega (arith, h.0, z, c.requires.1), c.requires.2)

pub returns-in-None : goal.returns-in-None
returns-in-None c = let s = c.stopped.ensures in record { begun_in_bounds = omega (arith, s.0); serves = serves_failed c.in-None.is (record { same = s.1; going = s.2; ended = s.3 }) }

pub returns-else-n-eq0 : goal.returns-else-n-eq0
returns-else-n-eq0 c = let a = c.args in
    let t = c.take_block.ensures in
    record { begun_in_bounds = t.begun_in_bounds; serves = serves_bytes c.in-Some.is c.if-n-eq0.false (take-add a.run.begun _ a.block.now) t.follows }
