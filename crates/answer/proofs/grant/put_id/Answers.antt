use mathlib.Core.Path.{◌≡◌, ap}
use native.Mathlib.Omega.{arith}
use borrow.Author.Rules.{rules}
use lib.ListN.{length}
use Rattle.std.specs.Option.{option_map, IfSome}
use Rattle.options.specs.Options.{id_or}
use Rattle.options.specs.Contract.{id_in}
use Rattle.answer.proofs.GrantLaws.{id_short, puts_short}
use Rattle.answer.proofs.grant.put_id.Goals as goal

pub returns : goal.returns
returns c = λ h.
    let a = c.args in
    let l : IfSome c.id.result (λ n. length n.bytes ≡ 64) = search rules in
    let s = id_short c.id.result l in
    let p = c.put_end.ensures a.out.now a.n (id_or (option_map id_in c.id.result)) c.put_id-filled.ensures (omega (arith, s, h)) in
    (rw c.id.ensures at p, puts_short p s)
