use native.Mathlib.Omega.{arith}
use Rattle.summary.proofs.GatherLaws.{gathered_failed, gathered_on}
use Rattle.streams.proofs.InputLaws.{loaded_bytes}
use Rattle.summary.proofs.gather.take_loaded.Goals as goal

pub slice_bounds-take_block-end : goal.slice_bounds-take_block-end
slice_bounds-take_block-end c = (loaded_bytes c.requires.0 c.in-Some.is).0

pub returns-in-None : goal.returns-in-None
returns-in-None c = let s = c.stopped.ensures in gathered_failed _ c.in-None.is s.0 s.1 s.2

pub returns-in-Some : goal.returns-in-Some
returns-in-Some c = let p = c.requires in let t = c.take_block.ensures in gathered_on _ _ c.in-Some.is (omega (arith, p.1)) p.2 t.0 t.1 t.2
