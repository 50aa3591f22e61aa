use Prim.Native.Nat.{◌<◌}
use lib.ListN.{drop}
use Rattle.line.specs.Joined.{leading}
use native.Mathlib.Omega.{arith}
use Rattle.line.specs.Contract.{in_run}
use Rattle.line.specs.declared.run.Run.TheVariants.{Blanks}
use Rattle.line.proofs.JoinedLaws.{leading_some}
use Rattle.line.proofs.ScannerLaws.{goes_blanks}
use borrow.Author.Rules.{rules}
use Rattle.line.proofs.scanner.Scanner.past_blanks.Goals as goal

pub part-requires : goal.part-requires
part-requires c = let p = c.requires in let a = c.args in let k : 0 < leading (in_run Blanks) (drop a.self.at a.line.now) = leading_some (in_run Blanks) _ _ p.1 p.3 in search rules

pub returns : goal.returns
returns c = let p = c.requires in let a = c.args in let k : 0 < leading (in_run Blanks) (drop a.self.at a.line.now) = leading_some (in_run Blanks) _ _ p.1 p.3 in (omega arith, λ text. goes_blanks p.0 _ p.2 c.run_end-end.ensures.0 c.run_end-end.ensures.2 (c.part.ensures text))
