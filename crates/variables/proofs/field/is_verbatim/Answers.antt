use Rattle.std.proofs.Common.{rules, true, ◌&&◌, ◌∙◌}
use Rattle.std.proofs.lemmas.Iterator.{YieldsList-from_slice}
use Rattle.std.proofs.lemmas.Iterator.Consumers.{fold_from_yields_List}
use borrow.Author.Tests.{tests}
use Rattle.variables.specs.Contract.{literal, verbatim}
use Rattle.variables.proofs.VerbatimLaws.{fold_all}
use Rattle.variables.proofs.field.is_verbatim.Goals as goal

pub returns : goal.returns
unfolding verbatim
returns c = fold_from_yields_List _ (λ good b. good && literal b) true _ c.fold.ensures.ran (YieldsList-from_slice c.args.field.now cc) (λ a x b q k. search (rules, tests)) ∙ fold_all literal c.args.field.now
