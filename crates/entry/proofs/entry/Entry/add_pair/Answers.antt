use mathlib.Core.Path.{refl}
use Rattle.entry.specs.Field.{pairs}
use Rattle.entry.proofs.AddLaws.{pair_added}
use Rattle.entry.proofs.entry.Entry.add_pair.Goals as goal

pub returns : goal.returns
returns c = λ t e te h n. pair_added c.args.text.now c.args.at _ _ c.in_ok-matches.ensures (λ es q. c.add_full_path.ensures _ _ t e es pairs te h n q refl)
