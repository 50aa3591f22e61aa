use Rattle.times.proofs.Days.{shortens_is, longer}
use borrow.Author.Tests.{lt-leb}
use mathlib.Core.Path.{◌∙◌}
use Rattle.times.proofs.day.is_short_for.Goals as goal

pub returns-then-s-name : goal.returns-then-s-name
returns-then-s-name c = shortens_is _ _ _ c.if-s-name.true c.eq_ignore_ascii_case.ensures.test

pub returns-else-s-name : goal.returns-else-s-name
returns-else-s-name c = lt-leb _ _ c.if-s-name.false ∙ longer _ _ c.if-s-name.false
