use native.Mathlib.Omega.{arith}
use Rattle.figures.proofs.Adding.{room_of}
use Rattle.figures.proofs.feed.room_for.Goals as goal

pub returns-then-given-ge-LIMIT : goal.returns-then-given-ge-LIMIT
returns-then-given-ge-LIMIT c = room_of _ _ _ (omega arith)

pub returns : goal.returns
returns c = room_of _ _ _ c.min.ensures
