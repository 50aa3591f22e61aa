use mathlib.Core.Path.{sym, ap, ◌∙◌}
use mathlib.Core.List.{append-nil}
use Rattle.options.specs.Arguments.{in_force}
use Rattle.options.specs.Read.{options_of, arguments_of}
use Rattle.options.specs.Contract.{failures}
use Rattle.entry.proofs.own.Own.new.Goals as goal

pub returns : goal.returns
unfolding options_of arguments_of in_force
returns c = λ ps xs h. record { options = c.new.ensures; failures = h ∙ ap (λ l. failures l xs) (sym (append-nil ps)) }
