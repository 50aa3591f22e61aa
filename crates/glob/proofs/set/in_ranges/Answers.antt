use Rattle.std.proofs.Common.{refl, rules, tests}
use Rattle.std.proofs.lemmas.Iterator.Search.{any_from_yields_List}
use Rattle.std.proofs.lemmas.Iterator.Consumers.{YieldsList-from_first}
use Rattle.text.specs.Class.{range, in_range}
use Rattle.glob.specs.Set.{covered, ranges}
use Rattle.glob.proofs.set.in_ranges.Goals as goal

pub returns : goal.returns
unfolding covered
returns c = any_from_yields_List (λ r. in_range r c.args.b) c.any.new.self _ c.any.result c.any.ensures.ran (YieldsList-from_first (λ r. range r.0 r.1) (λ s. ranges s.0.now) (ranges c.args.body.now) refl) (λ x b q k. search (rules, tests))
