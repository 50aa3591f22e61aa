use mathlib.Core.Path.{refl}
use Rattle.condition.specs.Contract.{added_all}
use Rattle.entry.specs.Field.{no_field}
use Rattle.entry.specs.Contract.{first_path}
use Rattle.entry.proofs.entry.Entry.new.Goals as goal

pub returns : goal.returns
unfolding no_field first_path added_all
returns c = λ j k t. record { stands = refl; early = (refl, refl, refl); keeps = record { paired = refl; path = refl; users = c.new.ensures; times = c.new-2.ensures; options = c.new-3.ensures } }
