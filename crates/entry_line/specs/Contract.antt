-- What the answers of the code say: cited by contracts and proofs only.
use denote.Ref.{Bor}
use Rattle.question.specs.declared.Age.{Age}
use Rattle.std.specs.Prelude.{ℕ, ◌≤◌, ◌≡◌, Bool, true, false, ◌&&◌, List, [], length, take, drop, get_or, Err, None, Ok, Option, Result, Some}
use Rattle.text.specs.Contract.{Wrote}
use Rattle.fault.specs.Fault.{and_then}
use Rattle.fault.specs.declared.Cause.{Cause}
use Rattle.question.specs.Question.{Question}
use Rattle.variables.specs.Scope.{Scope}
use Rattle.variables.specs.Substitute.{limited, field_text}
use Rattle.options.specs.Options.{Options}
use Rattle.options.specs.Arguments.{ArgumentPattern}
use Rattle.options.specs.Contract.{options_in, failures}
use Rattle.condition.specs.Condition.{Judge}
use Rattle.entry.specs.Field.{Entry, Position, field_of}
use Rattle.entry.specs.Entry.{entry_of, conditions_accept}
use Rattle.entry.specs.Path.{path_limit, starred, path_for}
use Rattle.entry.specs.Verdict.{verdict_of}
use Rattle.entry.specs.Contract.{given, path_at, Holds, AddsField, Sums, verdict_in}
use Rattle.entry.specs.declared.entry.Entry.{Entry as Kept}
use Rattle.entry.specs.declared.own.Own.{Own}
use Rattle.entry_line.specs.declared.decide.Decided.{Decided}
use Rattle.entry.specs.declared.entry.PathPlace.{PathPlace}

-- the text of a field, or the field as written where it has none
abbrev pub text_or : List ℕ → Result (List ℕ) Cause → List ℕ
text_or f (Err c) = f
text_or f (Ok t) = t

-- the texts of the fields, by their numbers
unfoldable pub texts_in : Scope → List (List ℕ) → ℕ → List ℕ
texts_in sc fs i = text_or (get_or fs i []) (field_text sc (get_or fs i []))

-- the text to add for a field: one that is its own text is given whatever its length
abbrev pub GivesText : Scope → List ℕ → Result (Bor (List ℕ)) Cause → Type 0
GivesText sc f (Err c) = Err c ≡ field_text sc f
GivesText sc f (Ok t) = (limited t.now ≡ field_text sc f) × (text_or f (field_text sc f) ≡ t.now)

-- a field was added by its text, as it is written
abbrev pub AddsWritten : Judge → Scope → Bool → List ℕ → ℕ → List ℕ → Kept → Result Kept Cause → Type 0
AddsWritten judge sc judging command index f k r = AddsField judging command index (text_or f (field_text sc f)) (λ p. and_then (field_text sc f) (field_of judge p)) k r

-- what is kept of an entry that was read: its fault, or what its fields hold
abbrev pub ReadsIn : Bool → List ℕ → (ℕ → List ℕ) → Result Entry Cause → Result Kept Cause → Type 0
ReadsIn judging command texts o (Err c) = o ≡ Err c
ReadsIn judging command texts o (Ok k) = (e : Entry) × (o ≡ Ok e) × (p : Position) × Holds judging command texts k p e

pub record Reads (judging : Bool) (command : List ℕ) (texts : ℕ → List ℕ) (o : Result Entry Cause) (r : Result Kept Cause) : Type 0 where
  pub reads : ReadsIn judging command texts o r

-- the fields from one on were read as the entry that they make
abbrev pub ReadsEntry : Judge → Scope → List (List ℕ) → ℕ → Bool → List ℕ → Result Kept Cause → Type 0
ReadsEntry judge sc fs from judging command r = Reads judging command (texts_in sc fs) (entry_of judge sc (drop from fs)) r

-- whether an entry accepts the question, where something is judged
abbrev pub accepts_if : Bool → List ℕ → List ℕ → Entry → Bool
accepts_if judging command user e = judging && (given (path_for command e.pairs) && conditions_accept user e)

-- where the path of an entry that accepts stands
abbrev pub Acting : Bool → List ℕ → List ℕ → (ℕ → List ℕ) → Entry → Option PathPlace → Type 0
Acting judging command user texts e None = accepts_if judging command user e ≡ false
Acting judging command user texts e (Some w) = (accepts_if judging command user e ≡ true) × (path_for command e.pairs ≡ Some (starred command (path_at texts w)))

-- what a line that is an entry comes to: its fault, or whether it accepts
abbrev pub ActsIn : Bool → List ℕ → List ℕ → (ℕ → List ℕ) → Result Entry Cause → Result (Option PathPlace) Cause → Type 0
ActsIn judging command user texts o (Err c) = o ≡ Err c
ActsIn judging command user texts o (Ok w) = (e : Entry) × (o ≡ Ok e) × Acting judging command user texts e w

pub record Acts (judging : Bool) (command user : List ℕ) (texts : ℕ → List ℕ) (o : Result Entry Cause) (r : Result (Option PathPlace) Cause) : Type 0 where
  pub acts : ActsIn judging command user texts o r

-- the fields from one on come to what the entry that they make does
abbrev pub ActsOn : Judge → Scope → List (List ℕ) → ℕ → Bool → (command user : List ℕ) → Result (Option PathPlace) Cause → Type 0
ActsOn judge sc fs from judging command user r = Acts judging command user (texts_in sc fs) (entry_of judge sc (drop from fs)) r

-- ---- the deciding entry
-- what is kept of its settings, whatever is judged, where these are the failures of the argument patterns in force
abbrev pub OwnSettings : Scope → (fields args : List (List ℕ)) → (failing : List Bool) → Own → Type 0
OwnSettings sc fs args failing r =
    (judge : Judge) (ps : List ArgumentPattern) (e : Entry)
    → failing ≡ failures ps args
    → entry_of judge sc fs ≡ Ok e
    → Sums ps args r e.settings

-- the path that stands in a field's text from a byte on was written, with the command put in; there is room for the longest
pub record PutsPath (sc : Scope) (fs : List (List ℕ)) (index at : ℕ) (command old new : List ℕ) (r : Option ℕ) : Type 0 where
  pub wrote : Wrote old new 0 (starred command (drop at (texts_in sc fs index))) r
  pub room : length old ≡ path_limit

-- the verdict on every question that has these parts, where the entry accepts it and its path stands in a field's text from a byte on
abbrev pub DecidesEntry : Judge → Scope → (fields : List (List ℕ)) → (from index at : ℕ) → (command user : List ℕ) → (Option Age) → (args : List (List ℕ)) → Options → (failing : List Bool) → (path : List ℕ) → Decided → Type 0
DecidesEntry judge sc fs from index at command user last args o failing path r =
    (q : Question) (ps : List ArgumentPattern) (e : Entry)
    → q.command ≡ command
    → q.user ≡ user
    → q.age ≡ last
    → q.args ≡ args
    → length q.args ≤ 64
    → failing ≡ failures ps q.args
    → entry_of judge sc (drop from fs) ≡ Ok e
    → path_for q.command e.pairs ≡ Some (starred q.command (drop at (texts_in sc fs index)))
    → conditions_accept q.user e ≡ true
    → verdict_of q o ps e ≡ Some (verdict_in (take r.path path) (options_in r.options) r.verdict)
