-- The control lines of a table one after the other: what is kept of the lines so far, and one turn of the loop over them.
use Rattle.std.specs.Option.{option_map, option_or}
use Rattle.std.specs.Prelude.{Err, None, Ok, Option, Result, Some, is_some}
use Rattle.question.specs.declared.Age.{Age}
use mathlib.Core.Path.{◌≡◌, refl, sym, ap, ◌∙◌}
use mathlib.Core.Bool.{Bool, true, false, not}
use mathlib.Core.List.{List, []}
use Prim.Native.Nat.{ℕ, ◌+◌, ◌≤◌, ◌<◌}
use lib.ListN.{length, take, drop}
use Rattle.text.proofs.Laws.{clash}
use Rattle.fault.specs.declared.Cause.{Cause}
use Rattle.question.specs.Question.{Question}
use Rattle.question.specs.Contract.{strings_in}
use Rattle.question.specs.declared.WeekMinute.{WeekMinute}
use Rattle.line.specs.Line.{backslash}
use Rattle.line.specs.Fold.{of_line, at_beginning, faulty, cut}
use Rattle.line.specs.Scan.{most_joined, most_fields}
use Rattle.line.specs.Contract.{lines_from, LineEnds, fields_in}
use Rattle.line.proofs.StepLaws.{line_at, outcome_from, from_start, from_end, from_cut, from_beginning, from_on}
use Rattle.variables.specs.Scope.{Scope, definition}
use Rattle.variables.specs.Contract.{definitions_of, scope_in, Stores}
use Rattle.variables.specs.declared.Variables.{Variables}
use Rattle.options.specs.Contract.{options_in}
use Rattle.condition.specs.Condition.{judge_of}
use Rattle.entry.specs.Entry.{entry_of}
use Rattle.entry.specs.Path.{starred}
use Rattle.entry.specs.Verdict.{verdict_of}
use Rattle.entry_line.specs.Contract.{texts_in, DecidesEntry}
use Rattle.entry_line.specs.declared.decide.Decided.{Decided}
use Rattle.reader.specs.State.{State, decided_at, start, scope_of, with_definition, with_settings, with_entry}
use Rattle.reader.specs.Colon.{define_line, global_line}
use Rattle.reader.specs.Read.{judge_for, line_read}
use Rattle.reader.specs.Contract.{Keeps, Changes, GlobalChanges, LineDefines, scope_for}
use Rattle.reader.specs.declared.define.Definition.{Definition as Placed}
use Rattle.entry.specs.declared.entry.PathPlace.{PathPlace}
use Rattle.reader.specs.declared.state.Reader.{Reader}
use Rattle.reader.proofs.ReadLaws.{global_change}
use Rattle.table_lines.specs.declared.Decision.{Decision as CodeDecision}
use Rattle.table_lines.specs.declared.action.LineAction.{LineAction}
use Rattle.table_lines.specs.declared.action.LineAction.TheVariants.{Nothing, Define, Global, Decide}
use Rattle.table_lines.specs.Lines.{lines_give}
use Rattle.table_lines.specs.Contract.{AskedWith, decided_in, is_made, Stands, DoesIn, LineDoes}
use Rattle.table_lines.proofs.DefineLaws.{define_stored}

-- ---- the lines so far
-- what is kept at a place, behind the lines so far: it stands for a state from which the rest of the lines gives what the whole table gives
pub record SoFar (q : Question) (t : List ℕ) (v : Variables) (r : Reader) (d : Option CodeDecision) (path : List ℕ) (at number : ℕ) : Type 0 where
  pub state : State
  pub variables : state.definitions ≡ definitions_of v
  pub keeps : Keeps q.args r state
  pub decided : decided_in d path ≡ state.decision
  pub rest : outcome_from backslash (line_read q) (λ s. s.decision) t at number state ≡ lines_give q t

pub so_start : (q : Question) (t : List ℕ) {v : Variables} {r : Reader} {path : List ℕ} → definitions_of v ≡ [] → Keeps q.args r start → SoFar q t v r None path 0 1
unfolding start
so_start q t e k = record { state = start; variables = sym e; keeps = k; decided = refl; rest = from_start backslash (line_read q) (λ s. s.decision) t start }

module _ {q : Question} {t : List ℕ} {v : Variables} {r : Reader} {d : Option CodeDecision} {path : List ℕ} {at number : ℕ} (f : SoFar q t v r d path at number) where
  -- no line is left
  pub so_end : length t ≤ at → lines_give q t ≡ Ok (decided_in d path)
  so_end h = sym f.rest ∙ from_end backslash (line_read q) (λ s. s.decision) t at number f.state h ∙ ap Ok (sym f.decided)

  -- a line is left that does not end
  pub so_cut : at < length t → ((n : ℕ) → lines_from backslash t at n ≡ []) → lines_give q t ≡ Err (cut at)
  so_cut h e = sym f.rest ∙ from_cut backslash (line_read q) (λ s. s.decision) t at number f.state h (e number)

  -- the code's parts stand for the state
  so_stands : (judging : Bool) → is_some d ≡ not judging → Stands f.state v.bytes v.sizes v.count r.shell judging
  so_stands judging j = record { variables = f.variables; kind = sym f.keeps.shell; judged = rw (← f.decided) (go d judging j) }
    where
      go : (o : Option CodeDecision) (b : Bool) → is_some o ≡ not b → b ≡ not (is_made (decided_in o path))
      go None true h = refl
      go None false h = clash cc
      go (Some x) true h = clash cc
      go (Some x) false h = refl

  module _ {e count : ℕ} (l : LineEnds backslash t at e count) where
    stopped : {c : Cause} → line_read q f.state (line_at t at e number) ≡ Err (of_line c) → lines_give q t ≡ Err (faulty c at)
    stopped g = sym f.rest ∙ from_beginning backslash (line_read q) (λ s. s.decision) t at number f.state l g

    onward : {s : State} {v' : Variables} {r' : Reader} {d' : Option CodeDecision} {path' : List ℕ} → line_read q f.state (line_at t at e number) ≡ Ok s → s.definitions ≡ definitions_of v' → Keeps q.args r' s → decided_in d' path' ≡ s.decision → SoFar q t v' r' d' path' e (number + count)
    onward {s} g x k m = record { state = s; variables = x; keeps = k; decided = m; rest = sym (from_on backslash (line_read q) (λ y. y.decision) t at number f.state l g) ∙ f.rest }

    module _ {command user groups host : List ℕ} {minute : WeekMinute} {last : (Option Age)} {args : List ℕ} (k : AskedWith q command user groups host minute last args) {old text former ends : List ℕ} {x : Result LineAction Cause} {judging : Bool} (j : is_some d ≡ not judging) (a : LineDoes (line_at t at e number).bytes old text former ends r.shell judging command user groups host minute v.bytes v.sizes v.count x) (room : length old ≡ most_joined) (places : length former ≡ most_fields) where
      -- what the line does with the state
      does : DoesIn q f.state (line_at t at e number) text ends x
      does = a.does room places q k f.state (so_stands judging j) (line_at t at e number) refl

      pub turn_fault : {c : Cause} → x ≡ Err c → lines_give q t ≡ Err (faulty c at)
      turn_fault z = stopped (rw z at does)

      pub turn_nothing : x ≡ Ok Nothing → SoFar q t v r d path e (number + count)
      turn_nothing z = onward (rw z at does) f.variables f.keeps f.decided

      scope_is : scope_for user host f.state ≡ scope_of q f.state
      scope_is = rw (k.its_user, k.its_host)

      -- ---- `:define`
      module _ {n i : ℕ} (z : x ≡ Ok (Define n i)) where
        defining : {o : Result State Cause} → define_line (scope_for user host f.state) f.state (drop i (fields_in text ends n)) ≡ o → line_read q f.state (line_at t at e number) ≡ at_beginning o
        defining o = rw z at does ∙ ap at_beginning (ap (λ sc. define_line sc f.state (drop i (fields_in text ends n))) (sym scope_is) ∙ o)

        pub turn_define_fault : {name bytes : List ℕ} {c : Cause} → LineDefines user host v.bytes v.sizes v.count (drop i (fields_in text ends n)) name bytes (Err c) → lines_give q t ≡ Err (faulty c at)
        turn_define_fault h = stopped (defining (h.defines f.state f.variables))

        pub turn_defined : {name bytes : List ℕ} {p : Placed} {v' : Variables} → LineDefines user host v.bytes v.sizes v.count (drop i (fields_in text ends n)) name bytes (Ok p) → (p.place < 64 → length (take p.name name) ≤ 64 → length (take p.text bytes) ≤ 256 → (v'.count ≡ p.names) × Stores v.bytes v.sizes p.place (definition (take p.name name) (take p.text bytes)) v'.bytes v'.sizes) → SoFar q t v' r d path e (number + count)
        unfolding with_definition
        turn_defined h stores =
            let w = define_stored v h f.state f.variables stores in
            onward (defining w.gives) w.variables (record { options = f.keeps.options; failures = f.keeps.failures; shell = f.keeps.shell }) f.decided

      -- ---- `:global`
      module _ {n i : ℕ} (z : x ≡ Ok (Global n i)) {y : Result Reader Cause} (h : GlobalChanges user host (definitions_of v) (strings_in args) (drop i (fields_in text ends n)) r y) where
        setting : Changes q.args (global_line (scope_of q f.state) f.state (drop i (fields_in text ends n))) y
        setting = rw k.its_args (rw scope_is at (h.changes_each f.state (rw k.its_args at f.keeps) f.variables))

        pub turn_global_fault : {c : Cause} → y ≡ Err c → lines_give q t ≡ Err (faulty c at)
        turn_global_fault o = let w = rw o at setting in stopped (rw z at does ∙ ap at_beginning w.changes)

        pub turn_set : {r' : Reader} → y ≡ Ok r' → SoFar q t v r' d path e (number + count)
        unfolding with_settings
        turn_set o =
            let s = rw o at setting in
            let w = s.changes in
            let u = global_change (scope_of q f.state) f.state w.0 (drop i (fields_in text ends n)) w.1 in
            onward (rw z at does ∙ ap at_beginning w.1) (sym (ap (λ s. s.definitions) u.2) ∙ f.variables) w.2 (f.decided ∙ ap (λ s. s.decision) u.2)

      -- ---- an entry that decides
      module _ {n i : ℕ} {p : PathPlace} (z : x ≡ Ok (Decide n i p)) where
        abbrev scope : Scope
        scope = scope_in user host v.bytes v.sizes v.count

        read_is : entry_of (judge_for q) (scope_of q f.state) (drop i (fields_in text ends n)) ≡ entry_of (judge_of user (strings_in groups) host minute.0) scope (drop i (fields_in text ends n))
        read_is = rw (k.its_user, k.its_groups, k.its_host, k.its_minute, f.variables)

        decided_scope : scope_of q f.state ≡ scope
        decided_scope = rw (k.its_user, k.its_host, f.variables)

        pub turn_decided : {w : Decided} {path' : List ℕ}
            → DecidesEntry (judge_of user (strings_in groups) host minute.0) scope (fields_in text ends n) i p.field p.at command user last (strings_in args) (options_in r.options) r.failures.at path' w
            → SoFar q t v r (Some (record { line = number; verdict = w.verdict; path = w.path; options = w.options })) path' e (number + count)
        unfolding with_entry
        turn_decided {w} {path'} m =
            let g = rw z at does in
            let path = ap (λ sc. Some (starred q.command (drop p.at (texts_in sc (fields_in text ends n) p.field)))) decided_scope in
            let told = m q f.state.arguments g.entry k.its_command k.its_user k.its_age k.its_args k.few f.keeps.failures (sym read_is ∙ g.read) (g.path ∙ path) g.accepts in
            let options = ap (λ o. verdict_of q o f.state.arguments g.entry) f.keeps.options in
            let decision = ap (λ o. option_or o (option_map (decided_at number) (verdict_of q f.state.options f.state.arguments g.entry))) g.undecided ∙ ap (option_map (decided_at number)) (sym options ∙ told) in
            onward g.enters f.variables (record { options = f.keeps.options; failures = f.keeps.failures; shell = f.keeps.shell }) (sym decision)
