use mathlib.Core.Path.{refl, sym, ◌∙◌}
use Rattle.variables.proofs.StoreLaws.{in_range_law, placed, added, one_more}
use Rattle.variables.proofs.place_for.Goals as goal

pub returns-in-Some : goal.returns-in-Some
returns-in-Some c = let a = c.args in
    let h = sym c.in-Some.is ∙ c.place.ensures in
    record { goes = (in_range_law a.bytes.now a.sizes.now a.count a.name.now _ h, λ t x y w. placed a.bytes.now a.sizes.now a.count a.name.now t _ h refl w) }

pub returns-then-count-ge-NAMES : goal.returns-then-count-ge-NAMES
returns-then-count-ge-NAMES c = let a = c.args in
    let h = sym c.in_default.is ∙ c.place.ensures in
    record { goes = λ t. one_more a.bytes.now a.sizes.now a.count a.name.now t h c.if-count-ge-NAMES.true }

pub returns : goal.returns
returns c = let a = c.args in
    let h = sym c.in_default.is ∙ c.place.ensures in
    record { goes = (c.if-count-ge-NAMES.false, λ t x y w. added a.bytes.now a.sizes.now a.count a.name.now t h c.if-count-ge-NAMES.false refl w) }
