use mathlib.Core.Path.{ap, ◌∙◌}
use Rattle.options.specs.Contract.{failures}
use Rattle.entry_line.proofs.DecideLaws.{path_written, decided}
use Rattle.entry_line.proofs.decide.decide.Goals as goal

pub returns : goal.returns
returns c = let w = c.path_of-filled.ensures in
    λ q ps e command user age args few f g path accept. decided q _ ps e (c.own_settings-own.ensures _ ps e (f ∙ ap (failures ps) args) g) args few (path_written _ command w.wrote) w.room c.verdict_of.result c.over-effective.ensures c.string_count.ensures age c.verdict_of.ensures c.unwrap_or.ensures path accept
