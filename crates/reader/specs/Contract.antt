-- What the state by value stands for, and what the answers of the code say: cited by contracts and proofs only.
use Rattle.std.specs.Prelude.{ℕ, ◌≤◌, ◌<◌, ◌≡◌, Bool, List, [], ◌∷◌, ◌++◌, length, take, drop, Err, Ok, Result}
use Rattle.fault.specs.Fault.{and_then}
use Rattle.fault.specs.declared.Cause.{Cause}
use Rattle.question.specs.Question.{Question}
use Rattle.variables.specs.Scope.{Scope, Definition, definition, define}
use Rattle.variables.specs.Define.{name_limit, text_limit, names_limit}
use Rattle.variables.specs.Contract.{definitions_in, Stores, text_reading, length_told}
use Rattle.options.specs.Arguments.{ArgumentPattern}
use Rattle.options.specs.Read.{Setting, options_of, arguments_of}
use Rattle.options.specs.Contract.{options_in, line_of, failures}
use Rattle.options.specs.declared.arguments.Failures.{Failures}
use Rattle.entry.specs.Entry.{entry_of}
use Rattle.reader.specs.State.{State, scope_of, with_definition, with_entry}
use Rattle.reader.specs.Colon.{text_read, definition_read, define_line, global_setting, global_read, global_line}
use Rattle.reader.specs.Read.{judge_for, fields_read}
use Rattle.reader.specs.declared.control_line.Action.{Action}
use Rattle.reader.specs.declared.control_line.Action.TheVariants.{Nothing, Define, Global, Entry}
use Rattle.reader.specs.declared.define.Sizes.{Sizes}
use Rattle.reader.specs.declared.define.Definition.{Definition as Placed}
use Rattle.reader.specs.declared.global.GlobalRead.{GlobalRead}
use Rattle.reader.specs.declared.state.Reader.{Reader}

-- ---- what a control line does
-- what is left to do with the fields of a line, from one of them on
abbrev pub acted : Question → ℕ → State → List (List ℕ) → Result Action Cause → Result State Cause
acted q line s fs (Err c) = Err c
acted q line s fs (Ok Nothing) = Ok s
acted q line s fs (Ok (Define i)) = define_line (scope_of q s) s (drop i fs)
acted q line s fs (Ok (Global i)) = global_line (scope_of q s) s (drop i fs)
acted q line s fs (Ok (Entry i)) = and_then (entry_of (judge_for q) (scope_of q s) (drop i fs)) (λ e. Ok (with_entry q line e s))

-- what the line does that the fields make from one of them on, with the depth left for `:if`: for every question and state with these parts
pub record LineActs (fs : List (List ℕ)) (from depth : ℕ) (shell : Bool) (caller host : List ℕ) (definitions : List Definition) (r : Result Action Cause) : Type 0 where
  pub acts : (q : Question) (line : ℕ) (s : State) → q.user ≡ caller → q.host ≡ host → s.definitions ≡ definitions → s.shell ≡ shell → fields_read depth q line s (drop from fs) ≡ acted q line s fs r

-- the scope of a caller, a host and the variables of a state
abbrev pub scope_for : List ℕ → List ℕ → State → Scope
scope_for caller host s = record { caller = caller; host = host; definitions = s.definitions }

-- ---- `:define`
-- the text that the fields make is at the beginning of its buffer
pub record ReadsText (sc : Scope) (fs : List (List ℕ)) (text : List ℕ) (r : (Result ℕ Cause)) : Type 0 where
  pub reading : text_reading text r ≡ text_read sc fs
  pub within : length_told r ≤ length text

-- the definition at the beginnings of two buffers
abbrev pub definition_in : List ℕ → List ℕ → Result Sizes Cause → Result Definition Cause
definition_in name text (Err c) = Err c
definition_in name text (Ok d) = Ok (definition (take d.name name) (take d.text text))

-- its name and its text lie in their buffers
abbrev pub Within : List ℕ → List ℕ → Result Sizes Cause → Type 0
Within name text (Err c) = Unit {0}
Within name text (Ok d) = (d.name ≤ length name) × (d.text ≤ length text)

-- the definition that the fields make is at the beginnings of its buffers
pub record ReadsDefinition (sc : Scope) (fs : List (List ℕ)) (name text : List ℕ) (r : Result Sizes Cause) : Type 0 where
  pub reading : definition_in name text r ≡ definition_read sc fs
  pub within : Within name text r

-- the line's fault, or: whoever stores the definition at the place has the variables of the new state
abbrev pub LineDefinesIn : List ℕ → List ℕ → List ℕ → List ℕ → ℕ → List (List ℕ) → List ℕ → List ℕ → Result Placed Cause → Type 0
LineDefinesIn caller host bytes sizes names fs name text (Err c) = (s : State) → s.definitions ≡ definitions_in bytes sizes names → define_line (scope_for caller host s) s fs ≡ Err c
LineDefinesIn caller host bytes sizes names fs name text (Ok d) = (d.place < names_limit) × (d.name ≤ name_limit) × (d.text ≤ text_limit) × (d.name ≤ length name) × (d.text ≤ length text) × ((s : State) → s.definitions ≡ definitions_in bytes sizes names → (new_bytes new_sizes : List ℕ) → Stores bytes sizes d.place (definition (take d.name name) (take d.text text)) new_bytes new_sizes → (define_line (scope_for caller host s) s fs ≡ Ok (with_definition (definition (take d.name name) (take d.text text)) s)) × (define (definition (take d.name name) (take d.text text)) s.definitions ≡ definitions_in new_bytes new_sizes d.names))

pub record LineDefines (caller host bytes sizes : List ℕ) (names : ℕ) (fs : List (List ℕ)) (name text : List ℕ) (r : Result Placed Cause) : Type 0 where
  pub defines : LineDefinesIn caller host bytes sizes names fs name text r

-- ---- `:global`
-- what is kept of the settings so far
pub record Sums (ps : List ArgumentPattern) (args : List (List ℕ)) (r : GlobalRead) (ss : List Setting) : Type 0 where
  pub options : options_in r.options ≡ options_of ss
  pub failures : r.failures.at ≡ failures (ps ++ arguments_of ss) args
  pub line : r.line ≡ line_of ss

-- one field more: its fault, or its setting behind the others
abbrev pub AddsIn : List ArgumentPattern → List (List ℕ) → List Setting → Result Setting Cause → Result GlobalRead Cause → Type 0
AddsIn ps args ss o (Err c) = o ≡ Err c
AddsIn ps args ss o (Ok r) = (k : Setting) × (o ≡ Ok k) × Sums ps args r (ss ++ (k ∷ []))

pub record Adds (ps : List ArgumentPattern) (args : List (List ℕ)) (ss : List Setting) (o : Result Setting Cause) (r : Result GlobalRead Cause) : Type 0 where
  pub adds : AddsIn ps args ss o r

-- a field with this text more, whatever patterns are in force and whatever settings stand before it
pub record AddsText (text : List ℕ) (args : List (List ℕ)) (before : GlobalRead) (r : Result GlobalRead Cause) : Type 0 where
  pub adds_to : (ps : List ArgumentPattern) (ss : List Setting) → length text ≤ 1024 → Sums ps args before ss → Adds ps args ss (global_setting text) r

-- all fields: the first fault, or all settings
abbrev pub ReadsIn : List ArgumentPattern → List (List ℕ) → Result (List Setting) Cause → Result GlobalRead Cause → Type 0
ReadsIn ps args o (Err c) = o ≡ Err c
ReadsIn ps args o (Ok r) = (ss : List Setting) × (o ≡ Ok ss) × Sums ps args r ss

pub record Reads (ps : List ArgumentPattern) (args : List (List ℕ)) (o : Result (List Setting) Cause) (r : Result GlobalRead Cause) : Type 0 where
  pub reads : ReadsIn ps args o r

-- the settings of the line, whatever patterns are in force, by which of the arguments fail them
pub record ReadsSettings (sc : Scope) (fs args : List (List ℕ)) (failing : Failures) (r : Result GlobalRead Cause) : Type 0 where
  pub reads_with : (ps : List ArgumentPattern) → failing.at ≡ failures ps args → Reads ps args (global_read sc fs) r

-- ---- the state
-- the state by value is the meaning's, but for the variables and the decision: of the argument patterns in force it keeps which arguments fail
pub record Keeps (args : List (List ℕ)) (r : Reader) (s : State) : Type 0 where
  pub options : options_in r.options ≡ s.options
  pub failures : r.failures.at ≡ failures s.arguments args
  pub shell : r.shell ≡ s.shell

-- a line that changes the state: its fault, or the reader of the new state
abbrev pub ChangesIn : List (List ℕ) → Result State Cause → Result Reader Cause → Type 0
ChangesIn args o (Err c) = o ≡ Err c
ChangesIn args o (Ok r) = (s : State) × (o ≡ Ok s) × Keeps args r s

pub record Changes (args : List (List ℕ)) (o : Result State Cause) (r : Result Reader Cause) : Type 0 where
  pub changes : ChangesIn args o r

-- a `:global` changes every state that the reader keeps and that has these variables; the reader is a copy, handed in by value, and a fault hands none back, so that nothing is left that must stay as it was
pub record GlobalChanges (caller host : List ℕ) (definitions : List Definition) (args fs : List (List ℕ)) (before : Reader) (r : Result Reader Cause) : Type 0 where
  pub changes_each : (s : State) → Keeps args before s → s.definitions ≡ definitions → Changes args (global_line (scope_for caller host s) s fs) r
