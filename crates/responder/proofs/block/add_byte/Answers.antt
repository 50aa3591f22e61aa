use native.Mathlib.Omega.{arith}
use borrow.Author.Rules.{rules}
use lib.ListN.{length-set}
use Rattle.responder.proofs.BlockLaws.{kept_byte, skipped_byte}
use Rattle.responder.proofs.block.add_byte.Goals as goal

pub returns-then-length-line : goal.returns-then-length-line
returns-then-length-line c = let a = c.args in record { line_in_bounds = (omega (arith, length-set a.line.now a.progress.line a.b), search rules, search rules); longer = record { bytes = kept_byte a.line.now a.progress.line a.b (omega arith) } }

pub returns : goal.returns
returns c = let a = c.args in record { line_in_bounds = (search rules, search rules, search rules); longer = record { bytes = skipped_byte a.line.now a.progress.line a.b (omega arith) (omega arith) } }
