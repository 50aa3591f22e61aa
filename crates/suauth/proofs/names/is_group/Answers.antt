use mathlib.Core.Path.{refl}
use borrow.Author.Rules.{rules}
use borrow.Author.Tests.{tests}
use Rattle.std.specs.Str.{bytes_eq}
use Rattle.std.proofs.lemmas.Iterator.Consumers.{YieldsList-from_first}
use Rattle.std.proofs.lemmas.Iterator.Search.{any_from_yields_List}
use Rattle.question.specs.Contract.{strings_in}
use Rattle.suauth.proofs.names.is_group.Goals as goal

pub returns : goal.returns
returns c = any_from_yields_List (bytes_eq c.args.name.now) c.any.new.self _ c.any.result c.any.ensures.ran (YieldsList-from_first (λ x. x.now) (λ s. strings_in s.0.now) {s = record { 0 = c.args.groups }} _ refl) (λ x b q k. search (rules, tests))
