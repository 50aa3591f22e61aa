use mathlib.Core.Path.{refl}
use borrow.Author.Rules.{rules}
use borrow.Author.Tests.{tests}
use Rattle.std.proofs.lemmas.Iterator.Consumers.{YieldsList-from_first}
use Rattle.std.proofs.lemmas.Iterator.Search.{any_from_yields_List}
use Rattle.glob.specs.Match.{matches}
use Rattle.question.specs.Contract.{strings_in}
use Rattle.condition.proofs.judge.some_group_matches.Goals as goal

pub returns : goal.returns
returns c = any_from_yields_List (matches c.args.pattern.now) c.any.new.self _ c.any.result c.any.ensures.ran (YieldsList-from_first (λ x. x.now) (λ s. strings_in s.0.now) _ refl) (λ x b q k. search (rules, tests))
