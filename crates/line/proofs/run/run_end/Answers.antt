use Rattle.std.proofs.Common.{rules, not}
use Rattle.std.proofs.lemmas.Iterator.{YieldsList-from_slice}
use Rattle.std.proofs.lemmas.Iterator.Search.{position_from_yields_List}
use borrow.Author.Tests.{tests}
use Rattle.line.specs.Contract.{in_run}
use Rattle.line.proofs.JoinedLaws.{run_ends}
use Rattle.line.proofs.run.run_end.Goals as goal

pub returns : goal.returns
returns c =
    let a = c.args in
    run_ends (in_run a.run) a.line.now a.from c.requires (position_from_yields_List (λ b. not (in_run a.run b)) _ _ _ c.position.ensures.ran (YieldsList-from_slice _ c.iter.ensures.rest) (λ x b q k. search (rules, tests))) c.unwrap_or.ensures
