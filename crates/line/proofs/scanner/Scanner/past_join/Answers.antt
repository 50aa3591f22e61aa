use Rattle.line.proofs.ScannerLaws.{goes_join}
use Rattle.line.proofs.JoinedLaws.{joins_room}
use Rattle.line.specs.Contract.{in_run}
use native.Mathlib.Omega.{arith}
use Rattle.line.proofs.scanner.Scanner.past_join.Goals as goal

pub run_end-end-requires : goal.run_end-end-requires
run_end-end-requires c = joins_room _ _ c.requires.1 c.requires.2

pub returns : goal.returns
unfolding in_run
returns c = (omega arith, goes_join c.requires.0 _ c.requires.1 c.requires.2 c.run_end-end.ensures.0 c.run_end-end.ensures.2 c.mode_joined.ensures (rw c.byte_before-before.ensures at c.add_join-counts.ensures))
