use Rattle.std.proofs.Common.{rules, false, ◌||◌, eqb, ◌∙◌}
use Rattle.std.proofs.lemmas.Iterator.{YieldsList-from_slice}
use Rattle.std.proofs.lemmas.Iterator.Consumers.{fold_from_yields_List}
use borrow.Author.Tests.{tests}
use Rattle.text.proofs.Lists.{fold_any}
use Rattle.text.specs.Lists.{has}
use Rattle.text.proofs.slice.is_among.Goals as goal

pub returns : goal.returns
unfolding has
returns c = fold_from_yields_List _ (λ found b. found || eqb b c.args.c) false _ c.fold.ensures.ran (YieldsList-from_slice c.args.s.now cc) (λ a x b q k. search (rules, tests)) ∙ fold_any (λ b. eqb b c.args.c) c.args.s.now
