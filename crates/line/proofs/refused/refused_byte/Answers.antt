use Rattle.std.proofs.Common.{rules, not, sym, ◌∙◌}
use Rattle.std.proofs.lemmas.Iterator.{YieldsList-from_slice}
use Rattle.std.proofs.lemmas.Iterator.Search.{position_from_yields_List}
use borrow.Author.Tests.{tests}
use Rattle.line.specs.Refused.{accepted}
use Rattle.line.proofs.RefusedLaws.{refused_is}
use Rattle.line.proofs.refused.refused_byte.Goals as goal

pub returns : goal.returns
returns c = position_from_yields_List (λ b. not (accepted b)) _ _ _ c.position.ensures.ran (YieldsList-from_slice c.args.table.now cc) (λ x b q k. search (rules, tests)) ∙ sym (refused_is c.args.table.now)
