-- An entry in two scopes that give each of its fields the same text. Assumes nothing.
use Rattle.std.specs.Prelude.{Result}
use mathlib.Core.Path.{◌≡◌, refl}
use mathlib.Core.List.{List, [], ◌∷◌}
use Prim.Native.Nat.{ℕ}
use Rattle.fault.specs.declared.Cause.{Cause}
use Rattle.fault.proofs.Readings.{Each}
use Rattle.fault.proofs.Alike.{then_alike}
use Rattle.variables.specs.Scope.{Scope}
use Rattle.variables.specs.Substitute.{field_text, field_as}
use Rattle.condition.specs.Condition.{Judge}
use Rattle.entry.specs.Field.{Position, first, field_of}
use Rattle.entry.specs.Entry.{fields_from, entry_of}

module _ (s t : Scope) where
  -- each field has the same text in both
  abbrev pub SameTexts : List (List ℕ) → Type 0
  SameTexts fs = Each (λ f. field_text s f ≡ field_text t f) fs

  pub field_alike : {A : Type 0} (r : List ℕ → Result A Cause) (f : List ℕ) → field_text s f ≡ field_text t f → field_as s r f ≡ field_as t r f
  field_alike r f e = rw e

  fields_alike : (judge : Judge) (p : Position) (fs : List (List ℕ)) → SameTexts fs → fields_from judge s p fs ≡ fields_from judge t p fs
  unfolding fields_from
  fields_alike judge p [] h = refl
  fields_alike judge p (f ∷ fs) h = then_alike (field_as t (field_of judge p) f) (field_alike (field_of judge p) f h.0) (λ x. rw (fields_alike judge x.next fs h.1))

  pub entry_alike : (judge : Judge) (fs : List (List ℕ)) → SameTexts fs → entry_of judge s fs ≡ entry_of judge t fs
  unfolding entry_of
  entry_alike judge fs h = rw (fields_alike judge first fs h)
