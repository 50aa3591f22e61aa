use mathlib.Core.Path.{◌≡◌, ap, ◌∙◌}
use Rattle.std.specs.Prelude.{Some}
use Rattle.text.proofs.Laws.{clash}
use Rattle.options.specs.Options.{auth_or}
use Rattle.options.specs.Contract.{options_in}
use Rattle.answer.specs.Contract.{string_ends}
use Rattle.answer.proofs.GrantLaws.{told_grant}
use Rattle.answer.proofs.grant.grant.Goals as goal

pub returns-in_err-ends : goal.returns-in_err-ends
returns-in_err-ends c = λ g k. let p = c.in_err-ends.ensures g k in clash (let z = p.ends in cc)

pub returns : goal.returns
returns c = λ g k.
    let p = c.in_ok-ends.ensures g k in
    let e : c.in_ok-ends.ends ≡ string_ends c.args.path.now (options_in c.args.options) = (let z = p.ends in cc) in
    record { told = ap Some (told_grant c.args.path.now (options_in c.args.options) c.args.line e (c.or_no.ensures ∙ ap auth_or c.auth.ensures) c.timeout.ensures c.nargs.ensures); bytes = p.bytes }
