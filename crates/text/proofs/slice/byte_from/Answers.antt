use Rattle.std.proofs.Common.{ap, arith, ◌∙◌}
use Rattle.text.specs.Contract.{lead}
use Rattle.text.proofs.Laws.{part_rest}
use Rattle.text.proofs.Leads.{lead_most}
use Rattle.text.proofs.slice.byte_from.Goals as goal

pub returns-in-Some : goal.returns-in-Some
returns-in-Some c =
    let p = c.in-Some.ensures.lookup.0 in
    let e = p.2 ∙ part_rest c.args.from c.args.s.now in
    let m = lead_most c.args.c c.in-Some.rest.now in
    (omega (arith, ap (lead c.args.c) e), omega arith, λ h. omega arith)
