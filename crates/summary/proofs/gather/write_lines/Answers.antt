use mathlib.Core.Path.{subst}
use mathlib.Core.List.{List}
use Prim.Native.Nat.{ℕ}
use Rattle.streams.specs.Contract.{Prints}
use Rattle.summary.proofs.gather.write_lines.Goals as goal

pub returns : goal.returns
returns c = subst (λ (x : List ℕ). Prints x c.args.output c.print.result) c.requires c.print.ensures
