use borrow.Author.Rules.{rules}
use Rattle.text.proofs.Laws.{part_rest}
use Rattle.options.specs.Read.{option_named}
use Rattle.options.proofs.read.read_named.Goals as goal
use Rattle.options.proofs.read.read_named.Goals.{else-global-via-then-global+else-eq-8, else-global-via-else-global}

pub returns-then-starts_with : goal.returns-then-starts_with
unfolding option_named
returns-then-starts_with c =
    let e = rw part_rest at c.read_argument.ensures in
    elim c.else-global.branch [ else-global-via-then-global+else-eq-8 w ↦ search rules | else-global-via-else-global w ↦ search rules ]
