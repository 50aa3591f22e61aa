-- A whole entry, field by field from the left: for callers that read the fields one after the other.
use Rattle.std.specs.Prelude.{Err, None, Ok, Option, Result, Some}
use mathlib.Core.Path.{◌≡◌, refl, sym, ap, ◌∙◌}
use mathlib.Core.Bool.{Bool, true, false, not}
use mathlib.Core.List.{List, [], ◌∷◌, append-nil, append_assoc}
use Prim.Native.Nat.{ℕ}
use Rattle.text.proofs.Laws.{clash}
use Rattle.fault.specs.Fault.{and_then, require}
use Rattle.fault.specs.declared.Cause.{Cause}
use Rattle.fault.specs.declared.Cause.TheVariants.{LatePair}
use Rattle.variables.specs.Scope.{Scope}
use Rattle.variables.specs.Substitute.{field_as}
use Rattle.options.specs.Read.{Setting, option_of}
use Rattle.condition.specs.Condition.{Sort, user, group, time, Judge, Condition, condition_of}
use Rattle.entry.specs.Field.{Entry, entry, no_field, followed, Position, rest, FieldRead, field_read, condition_part, has_pair, option_or, other_of, field_of}
use Rattle.entry.specs.Entry.{fields_from}
use Rattle.entry.specs.Contract.{settings_in}

followed_assoc : (a b d : Entry) → followed (followed a b) d ≡ followed a (followed b d)
unfolding followed
followed_assoc a b d = rw (append_assoc a.pairs b.pairs d.pairs, append_assoc a.users b.users d.users, append_assoc a.times b.times d.times, append_assoc a.settings b.settings d.settings)

followed_none : (a : Entry) → followed a no_field ≡ a
unfolding followed no_field
followed_none a = rw (append-nil a.pairs, append-nil a.users, append-nil a.times, append-nil a.settings)

module _ (judge : Judge) (s : Scope) where
  -- the entry, where its fields so far hold e and the rest are to be read from position p on
  unfoldable pub entry_after : Entry → Position → List (List ℕ) → Result Entry Cause
  entry_after e p fs = and_then (fields_from judge s p fs) (λ d. Ok (followed e d))

  pub entry_start : (p : Position) (fs : List (List ℕ)) → entry_after no_field p fs ≡ fields_from judge s p fs
  unfolding entry_after followed no_field
  entry_start p fs = go (fields_from judge s p fs)
    where
      go : (o : Result Entry Cause) → and_then o (λ d. Ok (followed no_field d)) ≡ o
      go (Err c) = refl
      go (Ok d) = refl

  pub entry_end : (e : Entry) (p : Position) → entry_after e p [] ≡ Ok e
  unfolding entry_after fields_from
  entry_end e p = rw (followed_none e)

  module _ (e : Entry) (p : Position) (f : List ℕ) (fs : List (List ℕ)) where
    pub entry_fault : {c : Cause} → field_as s (field_of judge p) f ≡ Err c → entry_after e p (f ∷ fs) ≡ Err c
    unfolding entry_after fields_from
    entry_fault h = rw h

    pub entry_on : {x : FieldRead} → field_as s (field_of judge p) f ≡ Ok x → entry_after e p (f ∷ fs) ≡ entry_after (followed e x.part) x.next fs
    unfolding entry_after fields_from
    entry_on {x} h = rw h (go (fields_from judge s x.next fs))
      where
        go : (o : Result Entry Cause) → and_then (and_then o (λ d. Ok (followed x.part d))) (λ d. Ok (followed e d)) ≡ and_then o (λ d. Ok (followed (followed e x.part) d))
        go (Err c) = refl
        go (Ok d) = rw (followed_assoc e x.part d)

-- the settings of a field that is an option or a condition
pub other_settings : (judge : Judge) (t : List ℕ) {x : FieldRead} → other_of judge t ≡ Ok x → x.part.settings ≡ settings_in (option_of false t)
unfolding other_of
other_settings judge t {x} e = go (option_of false t) e
  where
    sorts : (y : Condition) → field_read (condition_part y.sort y.alternatives) rest ≡ x → x.part.settings ≡ []
    sorts y g = sym (ap (λ z. z.part.settings) g) ∙ none_of y.sort
      where
        none_of : (k : Sort) → (condition_part k y.alternatives).settings ≡ []
        none_of user = refl
        none_of group = refl
        none_of time = refl

    condition : (o : Result Condition Cause) → and_then o (λ y. Ok (field_read (condition_part y.sort y.alternatives) rest)) ≡ Ok x → x.part.settings ≡ []
    condition (Err c) g = clash cc
    condition (Ok y) g = sorts y cc

    option : (b : Bool) (k : Setting) → require (not b) LatePair (Ok (field_read (entry [] [] [] (k ∷ [])) rest)) ≡ Ok x → x.part.settings ≡ k ∷ []
    option true k g = clash cc
    option false k g = let q : field_read (entry [] [] [] (k ∷ [])) rest ≡ x = cc in sym (ap (λ z. z.part.settings) q)

    go : (o : Option (Result Setting Cause)) → option_or judge t o ≡ Ok x → x.part.settings ≡ settings_in o
    go None g = condition (condition_of judge t) g
    go (Some (Err c)) g = clash cc
    go (Some (Ok k)) g = option (has_pair t) k g
