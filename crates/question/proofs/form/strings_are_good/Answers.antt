use mathlib.Core.Path.{◌≡◌, refl, ◌∙◌}
use mathlib.Core.Bool.{◌&&◌}
use native.Mathlib.Omega.{arith}
use borrow.Author.Rules.{rules}
use borrow.Author.Tests.{tests}
use lib.Dec.{ltb}
use Rattle.std.proofs.lemmas.Grind.{common_steps}
use Rattle.std.proofs.lemmas.Iterator.Consumers.{YieldsList-at, YieldsList-from_enumerate, YieldsList-from_first}
use Rattle.std.proofs.lemmas.Iterator.Search.{all_from_yields_List}
use Rattle.question.specs.Contract.{good_of, most_of, strings_in}
use Rattle.question.specs.Question.{good_strings}
use Rattle.question.proofs.ZeroEnded.{good_numbered, strings_are}
use Rattle.question.proofs.form.strings_are_good.Goals as goal

pub returns-then-is_none_or : goal.returns-then-is_none_or
returns-then-is_none_or c =
    let all : c.all.result ≡ good_strings (most_of c.args.listed) (good_of c.args.listed) (strings_in c.args.list.now) = all_from_yields_List (λ p. ltb p.0 (most_of c.args.listed) && good_of c.args.listed p.1) c.all.new.self _ c.all.result c.all.ensures.ran (YieldsList-from_enumerate (YieldsList-at c.enumerate.ensures.source (YieldsList-from_first (λ x. x.now) (λ s. strings_in s.0.now) _ refl)) c.enumerate.ensures.count) (λ x b q k. search (rules, tests)) ∙ good_numbered _ _ _ in
    grind (arith, common_steps, strings_are)
