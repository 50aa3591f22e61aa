use Rattle.std.proofs.Common.{refl, rules, tests}
use Rattle.std.proofs.lemmas.Iterator.Search.{all_from_yields_List}
use Rattle.std.proofs.lemmas.Iterator.Consumers.{YieldsList-from_first}
use Rattle.text.specs.Class.{range}
use Rattle.glob.specs.Set.{rising, ranges}
use Rattle.glob.proofs.set.in_order.Goals as goal

pub returns : goal.returns
returns c = all_from_yields_List rising c.all.new.self _ c.all.result c.all.ensures.ran (YieldsList-from_first (λ r. range r.0 r.1) (λ s. ranges s.0.now) (ranges c.args.body.now) refl) (λ x b q k. search (rules, tests))
