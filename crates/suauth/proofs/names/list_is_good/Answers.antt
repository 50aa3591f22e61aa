use borrow.Author.Rules.{rules}
use borrow.Author.Tests.{tests}
use Rattle.std.proofs.lemmas.Iterator.Consumers.{YieldsList-from_first}
use Rattle.std.proofs.lemmas.Iterator.Search.{all_from_yields_List}
use Rattle.text.specs.Split.{parts_left}
use Rattle.suauth.specs.Rule.{list_name}
use Rattle.suauth.proofs.names.list_is_good.Goals as goal

pub returns : goal.returns
returns c = all_from_yields_List list_name c.all.new.self _ _ c.all.ensures.ran (YieldsList-from_first (λ x. x.now) parts_left _ c.new.ensures) (λ x b q k. search (rules, tests))
