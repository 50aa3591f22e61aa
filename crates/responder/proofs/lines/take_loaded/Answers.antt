use native.Mathlib.Omega.{arith}
use Rattle.streams.proofs.InputLaws.{loaded_bytes}
use Rattle.responder.proofs.BlockLaws.{ready_halted}
use Rattle.responder.proofs.LoadedLaws.{loaded_none, follows_as}
use Rattle.streams.proofs.InputLaws.{same_bytes, no_failure}
use Rattle.responder.proofs.lines.take_loaded.Goals as goal

pub returns-then-n-eq0 : goal.returns-then-n-eq0
returns-then-n-eq0 c = let t = c.in-Some.is in
    let f = c.finish.ensures in
    record { ready = f.ready; serves = record { follows = λ n e h. loaded_none t c.if-n-eq0.true e h; finishes = λ e. f.finishes; fails = λ e. no_failure t e } }

pub slice_bounds-take_block-end : goal.slice_bounds-take_block-end
slice_bounds-take_block-end c = let b = loaded_bytes c.requires.0 c.in-Some.is in omega (arith, b.0, b.1)

pub returns-in-None : goal.returns-in-None
returns-in-None c = let p = c.requires.1 in
    let s = c.stopped.ensures in
    let t = c.in-None.is in
    record { ready = ready_halted c.args.run s p; serves = record { follows = λ n e h. no_failure e t; finishes = λ e. no_failure e t; fails = λ e. s } }

pub returns-else-n-eq0 : goal.returns-else-n-eq0
returns-else-n-eq0 c = let t = c.in-Some.is in
    let b = c.take_block.ensures in
    record { ready = b.ready; serves = record { follows = λ n e h. follows_as _ _ _ _ t e b.follows; finishes = λ e. absurd (c.if-n-eq0.false (same_bytes t e)); fails = λ e. no_failure t e } }
