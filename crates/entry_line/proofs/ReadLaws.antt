-- The fields of an entry from left to right, each by its text: one field more, all of them, and what the whole entry comes to.
use Rattle.std.specs.Prelude.{Err, None, Ok, Option, Result, Some}
use mathlib.Core.Path.{◌≡◌, refl, sym, ◌∙◌}
use mathlib.Core.Bool.{Bool, true, false, not, ◌&&◌}
use mathlib.Core.List.{List, [], ◌∷◌}
use Prim.Native.Nat.{ℕ, ◌+◌, ◌-◌, ◌≤◌, ◌<◌, min}
use native.Mathlib.Omega.{arith}
use native.Mathlib.Decide.{dec_le}
use borrow.Author.Tests.{le-leb, leb-true}
use lib.Dec.{leb}
use lib.ListN.{length, take, drop, get_or, drop_of_length-le}
use Rattle.text.specs.Lists.{null}
use Rattle.text.proofs.Laws.{next_of, clash, both_true}
use Rattle.text.proofs.Lists.{all_part}
use Rattle.fault.specs.Fault.{and_then, require}
use Rattle.fault.specs.declared.Cause.{Cause}
use Rattle.fault.specs.declared.Cause.TheVariants.{FieldLength, MissingPart, OptionTwice}
use Rattle.line.specs.Contract.{fields_in}
use Rattle.line.proofs.AccessLaws.{fields_count, field_part}
use Rattle.variables.specs.Scope.{Scope}
use Rattle.variables.specs.Substitute.{limited, field_text, field_as}
use Rattle.variables.specs.Contract.{literal, verbatim, Substitutes}
use Rattle.variables.proofs.TextLaws.{text_value, text_short}
use Rattle.variables.proofs.VerbatimLaws.{verbatim_text}
use Rattle.options.specs.Read.{twice}
use Rattle.condition.specs.Condition.{Judge}
use Rattle.entry.specs.Field.{Entry, no_field, followed, Position, first, FieldRead, field_of}
use Rattle.entry.specs.Entry.{fields_from, completed, entry_of}
use Rattle.entry.specs.Contract.{Holds, Adds, Accepting, outcome_of}
use Rattle.entry.specs.declared.entry.PathPlace.{PathPlace}
use Rattle.entry.proofs.EntryLaws.{entry_after, entry_start, entry_end, entry_fault, entry_on}
use Rattle.entry_line.specs.Contract.{text_or, texts_in, Reads, Acting, Acts}
use Rattle.entry.specs.declared.entry.Entry.{Entry as Kept}

-- ---- one field
module _ (s : Scope) (f : List ℕ) where
  -- the text of a field that is its own text
  pub verbatim_given : verbatim f ≡ true → (limited f ≡ field_text s f) × (text_or f (field_text s f) ≡ f)
  verbatim_given v = rw (verbatim_text s f v) (refl, go (leb (length f) 1024))
    where
      go : (b : Bool) → text_or f (require b FieldLength (Ok f)) ≡ f
      go true = refl
      go false = refl

  -- a text that was written
  pub text_given : {old new : List ℕ} {x : Result ℕ Cause} {n : ℕ} → x ≡ Ok n → Substitutes s f old new x → (limited (take n new) ≡ field_text s f) × (text_or f (field_text s f) ≡ take n new)
  text_given g w = rw (← text_value w g) (rw (le-leb _ _ (text_short w g)) refl, refl)

  module _ {j : Bool} {c : List ℕ} {t : ℕ → List ℕ} {e : Entry} (o : List ℕ → Result FieldRead Cause) where
    -- a field that has no text
    pub text_refused : {d : Cause} → Err d ≡ field_text s f → Adds j c t e (field_as s o f) (Err d)
    text_refused q = record { adds = rw (← q) refl }

    -- a field with the text to add for it
    pub text_added : (i : ℕ) {y : List ℕ} {r : Result Kept Cause} → t i ≡ text_or f (field_text s f) → (limited y ≡ field_text s f) × (text_or f (field_text s f) ≡ y) → (t i ≡ y → Adds j c t e (require (leb (length y) 1024) FieldLength (o y)) r) → Adds j c t e (field_as s o f) r
    text_added i {y} {r} te w k = rw (← w.0) (go (leb (length y) 1024) (k (te ∙ w.1)))
      where
        go : (b : Bool) → Adds j c t e (require b FieldLength (o y)) r → Adds j c t e (and_then (require b FieldLength (Ok y)) o) r
        go true a = a
        go false a = a

-- ---- all fields
-- a field that ends where the text has no quote and no `$`
pub field_verbatim : (text ends : List ℕ) (count i most reach : ℕ) (plain : Bool) → plain ≡ verbatim (take reach text) → most ≡ min count 64 → i < most → plain && leb (get_or ends i 0) reach ≡ true → verbatim (get_or (fields_in text ends count) i []) ≡ true
unfolding verbatim
field_verbatim text ends count i most reach plain v g h t =
    let d = both_true plain (leb (get_or ends i 0) reach) t in
    let l = leb-true (get_or ends i 0) reach d.1 in
    let s = get_or (0 ∷ ends) i 0 in
    rw (field_part text ends count i (omega arith)) (elim (dec_le s (get_or ends i 0)) [
      | yes k ↦ all_part literal reach (get_or ends i 0 - s) s text (omega arith) (sym v ∙ d.0)
      | no k ↦ let z : get_or ends i 0 - s ≡ 0 = omega arith in rw z
    ])

-- a place before the last field that is counted, and one past it
module _ (text ends : List ℕ) (count : ℕ) {most i : ℕ} (g : most ≡ min count 64) where
  pub field_there : i < most → i < length (fields_in text ends count)
  field_there h = omega (arith, fields_count text ends count, g, h)

  pub fields_past : most ≤ i → length (fields_in text ends count) ≤ i
  fields_past h = omega (arith, fields_count text ends count, g, h)

-- the fields before i are kept, and with the rest they make what all fields make
pub record ReadUpTo (judge : Judge) (s : Scope) (judging : Bool) (command : List ℕ) (fs : List (List ℕ)) (start : ℕ) (k : Kept) (i : ℕ) : Type 0 where
  pub position : Position
  pub entry : Entry
  pub holds : Holds judging command (texts_in s fs) k position entry
  pub whole : entry_after judge s entry position (drop i fs) ≡ fields_from judge s first (drop start fs)

module _ {judge : Judge} {s : Scope} {j : Bool} {c : List ℕ} {fs : List (List ℕ)} {start : ℕ} where
  -- before the first field
  pub read_none : {k : Kept} → ((b : Bool) (w : List ℕ) (t : ℕ → List ℕ) → Holds b w t k first no_field) → ReadUpTo judge s j c fs start k start
  read_none h = record { position = first; entry = no_field; holds = h j c (texts_in s fs); whole = entry_start judge s first (drop start fs) }

  module _ {k : Kept} {i : ℕ} (u : ReadUpTo judge s j c fs start k i) where
    module _ {f : List ℕ} {r : Result Kept Cause} (l : i < length fs) (g : f ≡ get_or fs i []) (a : (t : ℕ → List ℕ) (p : Position) (e : Entry) → t i ≡ text_or f (field_text s f) → Holds j c t k p e → Adds j c t e (field_as s (field_of judge p) f) r) where
      added_here : Adds j c (texts_in s fs) u.entry (field_as s (field_of judge u.position) (get_or fs i [])) r
      unfolding texts_in
      added_here = rw g at (a (texts_in s fs) u.position u.entry (rw g refl) u.holds)

      -- a field with a fault ends the reading
      pub read_fault : {d : Cause} → r ≡ Err d → Reads j c (texts_in s fs) (entry_of judge s (drop start fs)) (Err d)
      unfolding entry_of
      read_fault {d} q =
          let z = entry_fault judge s u.entry u.position (get_or fs i []) (drop (i + 1) fs) (rw q at added_here).adds in
          let w : fields_from judge s first (drop start fs) ≡ Err d = sym u.whole ∙ rw (next_of [] fs i l) z in
          record { reads = rw w refl }

      -- behind a good field the reading goes on
      pub read_on : {m : Kept} → r ≡ Ok m → ReadUpTo judge s j c fs start m (i + 1)
      read_on q =
          let w = (rw q at added_here).adds in
          let x = w.0 in
          let z = entry_on judge s u.entry u.position (get_or fs i []) (drop (i + 1) fs) w.1 in
          record { position = x.next; entry = followed u.entry x.part; holds = w.2; whole = sym z ∙ rw (← next_of [] fs i l) u.whole }

    -- behind the last field it is what concerns the whole entry
    module _ (l : length fs ≤ i) where
      fields_all : fields_from judge s first (drop start fs) ≡ Ok u.entry
      fields_all = sym u.whole ∙ rw (drop_of_length-le fs l) (entry_end judge s u.entry u.position)

      pub read_unfit : {d : Cause} → ((b : Bool) (w : List ℕ) (t : ℕ → List ℕ) (p : Position) (e : Entry) → Holds b w t k p e → Err d ≡ outcome_of (completed e)) → Reads j c (texts_in s fs) (entry_of judge s (drop start fs)) (Err d)
      unfolding entry_of
      read_unfit {d} h = record { reads = rw fields_all (go (completed u.entry) (h _ _ _ _ _ u.holds)) }
        where
          go : (o : Result Entry Cause) → Err d ≡ outcome_of o → o ≡ Err d
          go (Err b) g = cc
          go (Ok e) g = clash cc

      pub read_end : ((b : Bool) (w : List ℕ) (t : ℕ → List ℕ) (p : Position) (e : Entry) → Holds b w t k p e → Ok tt ≡ outcome_of (completed e)) → Reads j c (texts_in s fs) (entry_of judge s (drop start fs)) (Ok k)
      unfolding entry_of completed
      read_end h = record { reads = (u.entry, rw fields_all (go (not (null u.entry.pairs) && not (null u.entry.users)) (not (twice u.entry.settings)) (h _ _ _ _ _ u.holds)), u.position, u.holds) }
        where
          go : (a b : Bool) → Ok tt ≡ outcome_of (require a MissingPart (require b OptionTwice (Ok u.entry))) → require a MissingPart (require b OptionTwice (Ok u.entry)) ≡ Ok u.entry
          go false b g = clash cc
          go true false g = clash cc
          go true true g = refl

-- ---- the whole entry
-- whether it accepts, where something is judged
acting : (c u : List ℕ) (t : ℕ → List ℕ) (e : Entry) (o : Option PathPlace) → Accepting c u t e o → Acting true c u t e o
acting c u t e None h = h
acting c u t e (Some w) h = (rw (h.0, h.1) refl, h.0)

pub entry_refused : {j : Bool} {c u : List ℕ} {t : ℕ → List ℕ} {o : Result Entry Cause} {d : Cause} → Reads j c t o (Err d) → Acts j c u t o (Err d)
entry_refused r = record { acts = r.reads }

module _ {j : Bool} {c u : List ℕ} {t : ℕ → List ℕ} {k : Kept} {o : Result Entry Cause} (r : Reads j c t o (Ok k)) where
  -- where nothing is judged, none accepts
  pub entry_unjudged : j ≡ false → Acts j c u t o (Ok None)
  entry_unjudged f = let w = r.reads in record { acts = (w.0, w.1, rw f refl) }

  pub entry_acts : {a : Option PathPlace} → j ≡ true → ((w : List ℕ) (x : ℕ → List ℕ) (p : Position) (e : Entry) → Holds true w x k p e → Accepting w u x e a) → Acts j c u t o (Ok a)
  entry_acts {a} f g = let w = r.reads in record { acts = (w.0, w.1, rw f (acting c u t w.0 a (g c t w.2 w.0 (rw f at w.3)))) }
