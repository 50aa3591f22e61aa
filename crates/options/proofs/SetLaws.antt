-- Sets of options laid over each other. Assumes nothing.
use Rattle.std.specs.Option.{option_map, option_or}
use Rattle.std.specs.Prelude.{None, Option, Some}
use mathlib.Core.Path.{◌≡◌, refl}
use Rattle.text.proofs.Laws.{else_assoc, else_none}
use Rattle.options.specs.Options.{Options, no_options, over}

-- how the options are grouped does not matter
pub over_assoc : (a b c : Options) → over (over a b) c ≡ over a (over b c)
unfolding over
over_assoc a b c = simp else_assoc

-- the empty set does nothing on either side
pub none_over : (a : Options) → over no_options a ≡ a
unfolding over no_options
none_over a = refl

pub over_none : (a : Options) → over a no_options ≡ a
unfolding over no_options
over_none a = simp else_none

-- what one name or the other stands for
module _ {A B : Type 0} (f : A → B) where
  pub map_or : (a b : Option A) → option_map f (option_or a b) ≡ option_or (option_map f a) (option_map f b)
  map_or None b = refl
  map_or (Some x) b = refl
