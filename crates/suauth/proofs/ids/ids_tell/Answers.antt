use Rattle.std.proofs.Common.{rules, ◌≡◌, not, None, Some, sym, ap, ◌∙◌}
use Rattle.std.specs.Option.{option_map, option_and_then}
use Rattle.text.specs.Bytes.{bytes}
use Rattle.question.specs.Contract.{strings_in}
use Rattle.suauth.specs.Rule.{behind_word}
use Rattle.suauth.proofs.IdLaws.{ids_names, ids_except}
use Rattle.suauth.proofs.ids.ids_tell.Goals as goal
use Rattle.suauth.proofs.ids.ids_tell.Goals.{in-Some+in_default-behind_word, in_default}

pub returns-in-Some-behind_word : goal.returns-in-Some-behind_word
returns-in-Some-behind_word c =
    let a = c.args in
    let others : c.map.result ≡ option_map not c.names_tell.result = search rules in
    let list : option_and_then (behind_word (bytes "EXCEPT")) (behind_word (bytes "ALL") a.s.now) ≡ Some c.in-Some-behind_word.list.now = rw (sym c.in-Some.ensures) (sym c.in-Some-behind_word.ensures) in
    others ∙ ap (option_map not) c.names_tell.ensures ∙ ids_except a.s.now a.user.now (strings_in a.groups.now) a.from (search rules) list

pub returns : goal.returns
returns c =
    let a = c.args in
    let none : option_and_then (behind_word (bytes "EXCEPT")) (behind_word (bytes "ALL") a.s.now) ≡ None = (elim c.match-behind_word.branch [ in-Some+in_default-behind_word w ↦ rw (sym w.in-Some.ensures) (search rules) | in_default w ↦ rw (sym w.in_default.ensures) ]) in
    c.names_tell-2.ensures ∙ ids_names a.s.now a.user.now (strings_in a.groups.now) a.from (search rules) none
