-- A whole entry: its fields left to right, then what concerns the whole line (01, "Entries" and the order of faults).
use Rattle.std.specs.Prelude.{ℕ, Bool, not, ◌&&◌, List, [], ◌∷◌, Ok, Result}
use Rattle.text.specs.Lists.{null}
use Rattle.fault.specs.Fault.{and_then, require}
use Rattle.fault.specs.declared.Cause.{Cause}
use Rattle.fault.specs.declared.Cause.TheVariants.{MissingPart, OptionTwice}
use Rattle.variables.specs.Scope.{Scope}
use Rattle.variables.specs.Substitute.{field_as}
use Rattle.options.specs.Read.{twice}
use Rattle.condition.specs.Users.{users_accept}
use Rattle.condition.specs.Times.{times_accept}
use Rattle.condition.specs.Condition.{Judge}
use Rattle.entry.specs.Field.{Entry, no_field, followed, Position, first, field_of}

-- "fields left to right; inside a field: bad `$`, length after substitution", then the rest of the field
unfoldable pub fields_from : Judge → Scope → Position → List (List ℕ) → Result Entry Cause
fields_from judge s p [] = Ok no_field
fields_from judge s p (f ∷ fs) =
    and_then (field_as s (field_of judge p) f) (λ x.
    and_then (fields_from judge s x.next fs) (λ e.
    Ok (followed x.part e)))

-- "then what concerns the whole line (a part missing, an option twice)": the path, or "at least one user or group field"
unfoldable pub completed : Entry → Result Entry Cause
completed e =
    require (not (null e.pairs) && not (null e.users)) MissingPart
    (require (not (twice e.settings)) OptionTwice
    (Ok e))

-- an entry, with a judge of its conditions' expansions
unfoldable pub entry_of : Judge → Scope → List (List ℕ) → Result Entry Cause
entry_of judge s fs = and_then (fields_from judge s first fs) completed

-- users and times accept
unfoldable pub conditions_accept : List ℕ → Entry → Bool
conditions_accept user e = users_accept user e.users && times_accept e.times
