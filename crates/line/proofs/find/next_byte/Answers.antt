use native.Mathlib.Omega.{arith}
use Rattle.text.proofs.Leads.{reach_stop, reach_none}
use Rattle.line.proofs.find.next_byte.Goals as goal

pub returns : goal.returns
returns c = let e = c.byte_from.ensures in record { low = e.1; high = e.2 (omega arith); stops = reach_stop _ _ _ _ e.0; absent = reach_none _ _ _ _ e.0 }
