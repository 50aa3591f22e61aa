-- What the code keeps of an entry's fields, and what its answers say: cited by contracts and proofs only.
use Rattle.question.specs.declared.Age.{Age}
use Rattle.std.specs.Bool.{then_some}
use Rattle.std.specs.Option.{is_some, option_or, option_map}
use Rattle.std.specs.Prelude.{ℕ, ◌≤◌, ◌≡◌, Bool, true, false, not, cond, ◌&&◌, ◌||◌, List, [], ◌∷◌, ◌++◌, map, leb, length, drop, Err, None, Ok, Option, Result, Some}
use Rattle.text.specs.Contract.{filled_to}
use Rattle.text.specs.Lists.{null}
use Rattle.fault.specs.Fault.{and_then, require}
use Rattle.fault.specs.declared.Cause.{Cause}
use Rattle.fault.specs.declared.Cause.TheVariants.{FieldLength}
use Rattle.question.specs.Question.{Question}
use Rattle.matching.specs.Whole.{matches_some}
use Rattle.options.specs.Options.{Options}
use Rattle.options.specs.Arguments.{ArgumentPattern, in_force}
use Rattle.options.specs.Read.{Setting, options_of, arguments_of}
use Rattle.options.specs.Contract.{line_of, options_in, failures}
use Rattle.options.specs.declared.line.LineOptions.{LineOptions}
use Rattle.condition.specs.declared.rightmost.Rightmost.{Rightmost}
use Rattle.condition.specs.Condition.{Judge}
use Rattle.condition.specs.Rightmost.{Judged, judged}
use Rattle.condition.specs.Contract.{none_kept, added_all}
use Rattle.entry.specs.declared.position.Position.{Position as CodePosition}
use Rattle.entry.specs.declared.position.Position.TheVariants.{First, Second, Pairs, Rest}
use Rattle.entry.specs.declared.position.FieldKind.{FieldKind}
use Rattle.entry.specs.declared.position.FieldKind.TheVariants.{Pair as PairField, Command, Path as PathField, Other}
use Rattle.entry.specs.declared.entry.Entry.{Entry as Kept}
use Rattle.entry.specs.declared.entry.PathPlace.{PathPlace}
use Rattle.entry.specs.declared.own.Own.{Own}
use Rattle.entry.specs.declared.verdict.Verdict.{Verdict as CodeVerdict}
use Rattle.entry.specs.declared.verdict.Verdict.TheVariants.{Nargs, Argument, Path as PathLength, Password, Permit}
use Rattle.entry.specs.Entry.{conditions_accept}
use Rattle.entry.specs.Path.{starred, path_for}
use Rattle.entry.specs.Verdict.{Verdict, permit, password, stopped_by_nargs, stopped_by_argument, stopped_by_path, verdict_on}
use Rattle.entry.specs.Field.{Pair, Entry, followed, Position, first, second, pairs, rest, FieldRead, field_read, a_pair, full_path, pair_at, path_field, field_of}

-- ---- the command
-- a command pattern is taken where something is judged and it matches
abbrev pub taken : Bool → List ℕ → List (List ℕ) → Bool
taken judging command es = judging && matches_some es command

-- whether the command pattern with this reading is taken, or its fault
abbrev pub command_read : Bool → List ℕ → Result (List (List ℕ)) Cause → Result Bool Cause
command_read judging command o = and_then o (λ es. Ok (taken judging command es))

-- the path, as written, of the leftmost pair that is taken
unfoldable pub first_path : (List (List ℕ) → Bool) → List Pair → Option (List ℕ)
first_path f [] = None
first_path f (p ∷ ps) = cond (f p.expansions) (Some p.path) (first_path f ps)

-- ---- what a field is
-- by where it stands and where its first `::` is
abbrev pub kind_by : CodePosition → Option ℕ → FieldKind
kind_by First (Some i) = PairField i
kind_by First None = Command
kind_by Second f = PathField
kind_by Pairs (Some i) = PairField i
kind_by Pairs None = Other
kind_by Rest f = Other

-- where the next field stands
abbrev pub behind : FieldKind → CodePosition
behind (PairField i) = Pairs
behind Command = Second
behind PathField = Rest
behind Other = Rest

-- an option or a condition
abbrev pub is_other : FieldKind → Bool
is_other (PairField i) = false
is_other Command = false
is_other PathField = false
is_other Other = true

-- a position of the definition as the code's
abbrev pub position_of : Position → CodePosition
position_of first = First
position_of (second es) = Second
position_of pairs = Pairs
position_of rest = Rest

-- ---- what is kept
-- with one more pair, and the place of its path if it is taken
abbrev pub paired_with : Kept → Option PathPlace → CodePosition → Kept
paired_with k path next = record k { position = next; waiting = false; paired = true; path = option_or k.path path }

-- behind a command pattern that waits for its path
abbrev pub waiting_with : Kept → Bool → Kept
waiting_with k matches = record k { position = Second; waiting = matches }

-- behind a field of the rest, with what it changes
abbrev pub rest_with : Kept → Rightmost → Rightmost → LineOptions → Kept
rest_with k us ts o = record k { position = Rest; users = us; times = ts; options = o }

-- alternatives of which none applies unless something is judged
abbrev pub masked : Bool → List Judged → List Judged
masked judging xs = map (λ x. judged x.negated (judging && x.applies)) xs

-- where a path stands, if its pair is taken
abbrev pub place : Bool → ℕ → ℕ → Option PathPlace
place matches field at = then_some matches (record { field = field; at = at })

-- the path that stands at a place, by the texts of the fields
abbrev pub path_at : (ℕ → List ℕ) → PathPlace → List ℕ
path_at text w = drop w.at (text w.field)

-- the path that is kept
abbrev pub path_in : (ℕ → List ℕ) → Kept → Option (List ℕ)
path_in text k = option_map (path_at text) k.path

-- where the next field stands
abbrev pub Stands : Bool → List ℕ → Kept → Position → Type 0
Stands judging command k first = k.position ≡ First
Stands judging command k (second es) = (k.position ≡ Second) × (k.waiting ≡ taken judging command es)
Stands judging command k pairs = k.position ≡ Pairs
Stands judging command k rest = k.position ≡ Rest

-- there is no condition and no option yet
abbrev pub NoOther : Entry → Type 0
NoOther e = (e.users ≡ []) × (e.times ≡ []) × (e.settings ≡ [])

-- what fields there can be before that
abbrev pub Early : Position → Entry → Type 0
Early first e = NoOther e
Early (second es) e = NoOther e
Early pairs e = NoOther e
Early rest e = Unit {0}

-- what is kept is what the rules ask of the fields so far
pub record Keeps (judging : Bool) (command : List ℕ) (text : ℕ → List ℕ) (k : Kept) (e : Entry) : Type 0 where
  pub paired : k.paired ≡ not (null e.pairs)
  pub path : path_in text k ≡ first_path (taken judging command) e.pairs
  pub users : k.users ≡ added_all none_kept (masked (is_some k.path) e.users)
  pub times : k.times ≡ added_all none_kept (masked (is_some k.path) e.times)
  pub options : k.options ≡ line_of e.settings

-- and the next field stands where the rules say
pub record Holds (judging : Bool) (command : List ℕ) (text : ℕ → List ℕ) (k : Kept) (p : Position) (e : Entry) : Type 0 where
  pub stands : Stands judging command k p
  pub early : Early p e
  pub keeps : Keeps judging command text k e

-- what a field makes of it: its fault, or what is kept behind it
abbrev pub AddsIn : Bool → List ℕ → (ℕ → List ℕ) → Entry → Result FieldRead Cause → Result Kept Cause → Type 0
AddsIn judging command text e o (Err c) = o ≡ Err c
AddsIn judging command text e o (Ok k) = (x : FieldRead) × (o ≡ Ok x) × Holds judging command text k x.next (followed e x.part)

pub record Adds (judging : Bool) (command : List ℕ) (text : ℕ → List ℕ) (e : Entry) (o : Result FieldRead Cause) (r : Result Kept Cause) : Type 0 where
  pub adds : AddsIn judging command text e o r

-- a path, of a pair whose command pattern has these expansions
abbrev pub path_behind : List (List ℕ) → List ℕ → Position → Result FieldRead Cause
path_behind es t next = and_then (full_path t) (λ p. Ok (field_read (a_pair es p) next))

-- a field whose text is no longer than a field may be
abbrev pub limited_field : Judge → List ℕ → Position → Result FieldRead Cause
limited_field judge t p = require (leb (length t) 1024) FieldLength (field_of judge p t)

-- the next field was added, wherever it stands and whatever was kept before: `read` is what it reads as there
abbrev pub AddsField : Bool → List ℕ → ℕ → List ℕ → (Position → Result FieldRead Cause) → Kept → Result Kept Cause → Type 0
AddsField judging command index t read k r =
    (texts : ℕ → List ℕ) (p : Position) (e : Entry)
    → texts index ≡ t
    → Holds judging command texts k p e
    → Adds judging command texts e (read p) r

-- a path was added that stands in a text from a byte on, of a pair whose command pattern is taken or not
abbrev pub AddsPath : Kept → Bool → ℕ → List ℕ → ℕ → CodePosition → Result Kept Cause → Type 0
AddsPath k matches index t at next r =
    (judging : Bool) (command : List ℕ) (texts : ℕ → List ℕ) (e : Entry) (es : List (List ℕ)) (p : Position)
    → texts index ≡ t
    → Keeps judging command texts k e
    → NoOther e
    → matches ≡ taken judging command es
    → Stands judging command (paired_with k (place matches index at) next) p
    → Adds judging command texts e (path_behind es (drop at t) p) r

-- a field was added that has its first `::` at a byte
abbrev pub AddsPair : Bool → List ℕ → ℕ → List ℕ → ℕ → Kept → Result Kept Cause → Type 0
AddsPair judging command index t at k r =
    (texts : ℕ → List ℕ) (e : Entry)
    → texts index ≡ t
    → Keeps judging command texts k e
    → NoOther e
    → Adds judging command texts e (pair_at t (Some at)) r

-- the path was added that a command pattern alone waits for
abbrev pub AddsPathAlone : ℕ → List ℕ → Kept → Result Kept Cause → Type 0
AddsPathAlone index t k r =
    (judging : Bool) (command : List ℕ) (texts : ℕ → List ℕ) (e : Entry) (es : List (List ℕ))
    → texts index ≡ t
    → Keeps judging command texts k e
    → NoOther e
    → k.waiting ≡ taken judging command es
    → Adds judging command texts e (path_field es t) r

-- a field of the rest was added, whatever was kept before: `read` is what it reads as
abbrev pub AddsRest : Result FieldRead Cause → Kept → Result Kept Cause → Type 0
AddsRest read k r =
    (judging : Bool) (command : List ℕ) (texts : ℕ → List ℕ) (e : Entry)
    → Keeps judging command texts k e
    → Adds judging command texts e read r

-- what a whole entry comes to
abbrev pub outcome_of : Result Entry Cause → (Result Unit Cause)
outcome_of (Err c) = Err c
outcome_of (Ok e) = (Ok tt)

-- there is a path
abbrev pub given : Option (List ℕ) → Bool
given None = false
given (Some p) = true

-- the place of the path, where there is one and the conditions accept
abbrev pub Accepting : List ℕ → List ℕ → (ℕ → List ℕ) → Entry → Option PathPlace → Type 0
Accepting command user text e None = (given (path_for command e.pairs) && conditions_accept user e) ≡ false
Accepting command user text e (Some w) = (path_for command e.pairs ≡ Some (starred command (path_at text w))) × (conditions_accept user e ≡ true)

-- ---- the deciding entry
-- the setting that a text is, if it is one
abbrev pub settings_in : Option (Result Setting Cause) → List Setting
settings_in None = []
settings_in (Some (Err c)) = []
settings_in (Some (Ok s)) = s ∷ []

-- what is kept of its settings: the options, and which arguments fail the patterns in force or its own
pub record Sums (global : List ArgumentPattern) (args : List (List ℕ)) (o : Own) (ss : List Setting) : Type 0 where
  pub options : options_in o.options ≡ options_of ss
  pub failures : o.failures.at ≡ failures (in_force global (arguments_of ss)) args

-- settings were added behind those that are kept: `more` are the ones that a text gives
abbrev pub AddsSettings : (args : List (List ℕ)) (t : List ℕ) (more : List Setting) (old new : Own) → Type 0
AddsSettings args t more old new =
    (ps : List ArgumentPattern) (ss : List Setting)
    → length t ≤ 1024
    → Sums ps args old ss
    → Sums ps args new (ss ++ more)

-- what the code's verdict stands for
abbrev pub verdict_in : List ℕ → Options → CodeVerdict → Verdict
verdict_in p o Nargs = stopped_by_nargs
verdict_in p o Argument = stopped_by_argument
verdict_in p o PathLength = stopped_by_path
verdict_in p o Password = password p o
verdict_in p o Permit = permit p o

-- the verdict on every question that has so many arguments and this age, by the patterns that fail and whether its path fits
abbrev pub GivesVerdict : Options → (failing : List Bool) → ℕ → Option ℕ → (Option Age) → CodeVerdict → Type 0
GivesVerdict o failing arguments path last r =
    (q : Question) (ps : List ArgumentPattern) (p : List ℕ)
    → length q.args ≤ 64
    → arguments ≡ length q.args
    → last ≡ q.age
    → failing ≡ failures ps q.args
    → path ≡ filled_to 1024 (length p)
    → verdict_in p o r ≡ verdict_on q o ps p
