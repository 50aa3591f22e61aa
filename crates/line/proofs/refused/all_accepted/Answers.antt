use Rattle.std.proofs.Common.{rules, true, ◌&&◌, ◌∙◌}
use Rattle.std.proofs.lemmas.Iterator.{YieldsList-from_slice}
use Rattle.std.proofs.lemmas.Iterator.Consumers.{fold_from_yields_List}
use borrow.Author.Tests.{tests}
use Rattle.line.specs.Refused.{accepted}
use Rattle.line.proofs.RefusedLaws.{fold_all}
use Rattle.line.proofs.refused.all_accepted.Goals as goal

pub returns : goal.returns
returns c = fold_from_yields_List _ (λ good b. good && accepted b) true _ c.fold.ensures.ran (YieldsList-from_slice c.args.table.now cc) (λ a x b q k. search (rules, tests)) ∙ fold_all accepted c.args.table.now
