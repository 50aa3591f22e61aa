use Rattle.std.proofs.Common.{rules, ◌≡◌, ◌∷◌}
use Rattle.suauth.proofs.IdLaws.{word_behind}
use Rattle.suauth.proofs.ids.behind_word.Goals as goal

pub returns-in-Some : goal.returns-in-Some
returns-in-Some c =
    let parts : c.in_ok-behind.behind.now ≡ c.in-Some.b.now ∷ c.in-Some.rest.now = search rules in
    let found = c.in_ok-behind.ensures.cases in
    word_behind c.args.word.now c.args.s.now c.in-Some.b.now c.in-Some.rest.now found.0 (cc (parts, found.1)) (search rules)
