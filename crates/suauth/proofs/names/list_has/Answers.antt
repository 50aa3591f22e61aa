use borrow.Author.Rules.{rules}
use borrow.Author.Tests.{tests}
use mathlib.Core.Bool.{cond}
use mathlib.Core.List.{[], ◌∷◌}
use Rattle.std.specs.List.{list_any}
use Rattle.std.specs.Str.{bytes_eq}
use Rattle.std.proofs.lemmas.Iterator.Consumers.{YieldsList-from_first}
use Rattle.std.proofs.lemmas.Iterator.Search.{any_from_yields_List}
use Rattle.text.specs.Split.{parts_left}
use Rattle.question.specs.Contract.{strings_in}
use Rattle.suauth.specs.Meaning.{any_of}
use Rattle.suauth.proofs.names.list_has.Goals as goal

pub returns : goal.returns
unfolding any_of
returns c = any_from_yields_List (λ n. list_any (bytes_eq n) (cond c.args.grouped (strings_in c.args.groups.now) (c.args.user.now ∷ []))) c.any.new.self _ _ c.any.ensures.ran (YieldsList-from_first (λ x. x.now) parts_left _ c.new.ensures) (λ x b q k. search (rules, tests))
