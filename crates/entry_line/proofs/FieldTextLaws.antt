-- The texts by the fields' numbers.
use Rattle.std.specs.Prelude.{Err, Ok}
use mathlib.Core.Path.{◌≡◌}
use mathlib.Core.List.{List, []}
use Prim.Native.Nat.{ℕ}
use lib.ListN.{get_or}
use Rattle.fault.specs.declared.Cause.{Cause}
use Rattle.variables.specs.Scope.{Scope}
use Rattle.variables.specs.Substitute.{field_text}
use Rattle.entry_line.specs.Contract.{texts_in}

-- the text by the field's number, where it has one and where it has none
module _ (s : Scope) (fs : List (List ℕ)) (i : ℕ) {f : List ℕ} (e : f ≡ get_or fs i []) where
  pub texts_told : {t : List ℕ} → Ok t ≡ field_text s f → texts_in s fs i ≡ t
  unfolding texts_in
  texts_told g = rw (← e, ← g)

  pub texts_lost : {c : Cause} → Err c ≡ field_text s f → texts_in s fs i ≡ f
  unfolding texts_in
  texts_lost g = rw (← e, ← g)
