-- The deciding entry's fields a second time: the settings so far, and what the rest of the fields make of them.
use Rattle.std.specs.Prelude.{Err, Ok, Result}
use mathlib.Core.Path.{◌≡◌, refl, sym, ◌∙◌}
use mathlib.Core.Bool.{Bool, true, false, not, cond, ◌&&◌}
use mathlib.Core.List.{List, [], ◌∷◌, ◌++◌}
use Prim.Native.Nat.{ℕ, ◌+◌, ◌≤◌, ◌<◌}
use lib.ListN.{length, take, drop, get_or, drop_of_length-le}
use Rattle.text.specs.Lists.{null}
use Rattle.text.specs.Slice.{find_pair}
use Rattle.text.proofs.Laws.{next_of}
use Rattle.fault.specs.Fault.{require}
use Rattle.fault.specs.declared.Cause.{Cause}
use Rattle.fault.specs.declared.Cause.TheVariants.{MissingPart, OptionTwice}
use Rattle.fault.proofs.Readings.{never, same_value, and_then_law, required, then_fault, then_value}
use Rattle.variables.specs.Scope.{Scope}
use Rattle.variables.specs.Substitute.{field_text, field_as}
use Rattle.variables.specs.Contract.{Substitutes}
use Rattle.variables.proofs.TextLaws.{text_value, text_short}
use Rattle.options.specs.Arguments.{ArgumentPattern}
use Rattle.options.specs.Read.{Setting, option_of, twice}
use Rattle.condition.specs.Condition.{Judge}
use Rattle.entry.specs.Field.{Entry, no_field, followed, Position, first, FieldRead, field_of}
use Rattle.entry.specs.Entry.{fields_from, completed, entry_of}
use Rattle.entry.specs.Contract.{Sums, kind_by, behind, is_other, position_of, settings_in}
use Rattle.entry.specs.declared.position.Position.{Position as CodePosition}
use Rattle.entry.specs.declared.position.Position.TheVariants.{First}
use Rattle.entry.specs.declared.position.FieldKind.{FieldKind}
use Rattle.entry.specs.declared.own.Own.{Own}
use Rattle.entry.proofs.EntryLaws.{entry_after, entry_start, entry_end, entry_fault, entry_on}
use Rattle.entry.proofs.OtherLaws.{field_gives}
use Rattle.entry.proofs.VerdictLaws.{sums_same}

-- ---- one field more
module _ {ps : List ArgumentPattern} {xs : List (List ℕ)} {o : Own} (ss : List Setting) (t : List ℕ) {b r : Bool} (e : r ≡ b) where
  -- a field that is an option or a condition gives its setting
  pub other_taken : r ≡ true → Sums ps xs o (ss ++ settings_in (option_of false t)) → Sums ps xs o (ss ++ cond b (settings_in (option_of false t)) [])
  other_taken y h = rw (← e, y) h

  -- any other field gives none
  pub other_left : r ≡ false → Sums ps xs o ss → Sums ps xs o (ss ++ cond b (settings_in (option_of false t)) [])
  other_left y h = rw (← e, y) (sums_same h)

-- an entry without a fault is what its fields hold
pub entry_fields : (judge : Judge) (s : Scope) (fs : List (List ℕ)) {e : Entry} → entry_of judge s fs ≡ Ok e → fields_from judge s first fs ≡ Ok e
unfolding entry_of completed
entry_fields judge s fs {e} g =
    let u = and_then_law (fields_from judge s first fs) completed e g in
    let d = u.0 in
    let v = required (not (null d.pairs) && not (null d.users)) MissingPart (require (not (twice d.settings)) OptionTwice (Ok d)) e u.2 in
    let w = required (not (twice d.settings)) OptionTwice (Ok d) e v.1 in
    u.1 ∙ w.1

-- how far the second reading is: where the next field stands, what the fields so far hold, and that the rest completes it
pub record Reached (judge : Judge) (s : Scope) (ps : List ArgumentPattern) (xs : List (List ℕ)) (k : CodePosition) (o : Own) (fs : List (List ℕ)) (whole : Entry) : Type 0 where
  pub position : Position
  pub sofar : Entry
  pub stands : k ≡ position_of position
  pub sums : Sums ps xs o sofar.settings
  pub rest : entry_after judge s sofar position fs ≡ Ok whole

module _ {judge : Judge} {s : Scope} {ps : List ArgumentPattern} {xs : List (List ℕ)} {k : CodePosition} {o : Own} {whole : Entry} where
  -- before the first field
  pub reached_start : (fs : List (List ℕ)) → k ≡ First → Sums ps xs o [] → fields_from judge s first fs ≡ Ok whole → Reached judge s ps xs k o fs whole
  unfolding no_field
  reached_start fs h q e = record { position = first; sofar = no_field; stands = h; sums = q; rest = entry_start judge s first fs ∙ e }

  -- behind the last field all settings are there
  pub reached_end : (fs : List (List ℕ)) (i : ℕ) → length fs ≤ i → Reached judge s ps xs k o (drop i fs) whole → Sums ps xs o whole.settings
  reached_end fs i l r =
      let e = rw (drop_of_length-le fs l) at r.rest in
      rw (← same_value (sym (entry_end judge s r.sofar r.position) ∙ e)) r.sums

  module _ (fs : List (List ℕ)) (i : ℕ) {f : List ℕ} (l : i < length fs) (e : f ≡ get_or fs i []) (r : Reached judge s ps xs k o (drop i fs) whole) where
    ahead : entry_after judge s r.sofar r.position (f ∷ drop (i + 1) fs) ≡ Ok whole
    ahead = rw (e, ← next_of [] fs i l) r.rest

    -- a field that has no text would be a fault
    pub reached_lost : {A : Type 0} {d : Cause} → Err d ≡ field_text s f → A
    reached_lost g = never (sym (entry_fault judge s r.sofar r.position f (drop (i + 1) fs) (sym (then_fault (field_of judge r.position) g))) ∙ ahead)

    -- the next field: where it leads, and the settings
    pub reached_on : {old new : List ℕ} {y : FieldKind} {k' : CodePosition} {o' : Own} {u : (Result ℕ Cause)} {n : ℕ} → Substitutes s f old new u → u ≡ Ok n
        → y ≡ kind_by k (find_pair 58 58 0 (take n new)) → k' ≡ behind y
        → ((qs : List ArgumentPattern) (ss : List Setting) → length (take n new) ≤ 1024 → Sums qs xs o ss → Sums qs xs o' (ss ++ cond (is_other y) (settings_in (option_of false (take n new))) []))
        → Reached judge s ps xs k' o' (drop (i + 1) fs) whole
    unfolding followed
    reached_on {old} {new} {y} {k'} {o'} {u} {n} v q a b sums = go (field_of judge r.position t) refl
      where
        t : List ℕ
        t = take n new

        read : {x : Result FieldRead Cause} → field_of judge r.position t ≡ x → field_as s (field_of judge r.position) f ≡ x
        read h = sym (then_value (field_of judge r.position) (text_value v q) (sym h))

        w : y ≡ kind_by (position_of r.position) (find_pair 58 58 0 t)
        w = rw r.stands at a

        go : (x : Result FieldRead Cause) → field_of judge r.position t ≡ x → Reached judge s ps xs k' o' (drop (i + 1) fs) whole
        go (Err d) h = never (sym (entry_fault judge s r.sofar r.position f (drop (i + 1) fs) (read h)) ∙ ahead)
        go (Ok x) h = let z = rw (← w) at (field_gives judge r.position t h) in record {
          position = x.next;
          sofar = followed r.sofar x.part;
          stands = b ∙ sym z.1;
          sums = rw z.0 (sums ps r.sofar.settings (text_short v q) r.sums);
          rest = sym (entry_on judge s r.sofar r.position f (drop (i + 1) fs) (read h)) ∙ ahead;
        }
