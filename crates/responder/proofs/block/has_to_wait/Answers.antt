use mathlib.Core.Logic.{inl, inr}
use native.Mathlib.Omega.{arith}
use Rattle.responder.proofs.BlockLaws.{other_byte, no_room, room_found}
use Rattle.responder.proofs.block.has_to_wait.Goals as goal

pub returns-then-b-ne10 : goal.returns-then-b-ne10
returns-then-b-ne10 c = other_byte c.if-b-ne10.true

pub returns-then-records-progress-lt-BYTES : goal.returns-then-records-progress-lt-BYTES
returns-then-records-progress-lt-BYTES c = no_room (inr (omega arith))

pub returns-then-out-progress-lt-BUFFER : goal.returns-then-out-progress-lt-BUFFER
returns-then-out-progress-lt-BUFFER c = no_room (inl (omega arith))

pub returns : goal.returns
returns c = room_found (omega arith, omega arith)
