-- What a control line can do to the state, and so to the decision. Assumes nothing.
use Rattle.std.specs.Option.{option_map, option_or}
use Rattle.std.specs.Prelude.{None, Ok, Option, Result, Some}
use mathlib.Core.Path.{◌≡◌, sym, ap, ◌∙◌}
use mathlib.Core.Bool.{Bool, true, false, not}
use mathlib.Core.List.{List, [], ◌∷◌}
use Prim.Native.Nat.{ℕ, zero, suc}
use lib.ListN.{length, drop}
use Rattle.text.specs.Lists.{null}
use Rattle.text.proofs.Laws.{else_none}
use Rattle.fault.specs.declared.Cause.{Cause}
use Rattle.fault.specs.declared.Cause.TheVariants.{EntryTooEarly, MissingPart, OptionTwice}
use Rattle.fault.specs.Fault.{and_then, read_all}
use Rattle.fault.proofs.Readings.{never, same_value, and_then_law, required}
use Rattle.line.specs.declared.kind.LineKind.{LineKind}
use Rattle.line.specs.Line.{Line}
use Rattle.line.specs.Kind.{kind_of_line}
use Rattle.line.proofs.FoldLaws.{beginning_value}
use Rattle.line.proofs.WithinLaws.{FaultsWithin, beginning_within}
use Rattle.question.specs.Question.{Question}
use Rattle.variables.specs.Scope.{Scope, Definition}
use Rattle.variables.specs.Define.{define_in}
use Rattle.variables.specs.Substitute.{field_as}
use Rattle.options.specs.Read.{Setting, twice}
use Rattle.entry.specs.Entry.{entry_of}
use Rattle.entry.specs.Field.{Entry}
use Rattle.entry.specs.Verdict.{Verdict, verdict_of}
use Rattle.reader.specs.State.{State, decided_at, scope_of, with_definition, with_settings, with_entry}
use Rattle.reader.specs.Colon.{definition_read, define_line, global_field, global_read, global_line, comparison, rest_if, if_line, word_of, by_word}
use Rattle.reader.specs.declared.word.ColonWord.{ColonWord}
use Rattle.reader.specs.declared.word.ColonWord.TheVariants.{Define, Global, If}
use Rattle.reader.specs.Read.{judge_for, entry_line, by_kind, fields_read, if_depth, line_read}
use Rattle.line.specs.declared.kind.LineKind.TheVariants.{NoField, Colon, Entry as EntryKind}
use Rattle.line.specs.Scan.{scanned}

-- what a control line with this number makes of the state s: it stays, has one definition more, the options of a `:global` line, or one entry more
pub data Change (q : Question) (line : ℕ) (s t : State) : Type 0 where
  stays : s ≡ t → Change q line s t
  defines : (d : Definition) → with_definition d s ≡ t → Change q line s t
  sets : (fs : List (List ℕ)) (ss : List Setting) → read_all (global_field (scope_of q s)) fs ≡ Ok ss → with_settings ss s ≡ t → Change q line s t
  enters : (fs : List (List ℕ)) (e : Entry) → entry_of (judge_for q) (scope_of q s) fs ≡ Ok e → with_entry q line e s ≡ t → Change q line s t

-- ---- `:define` and `:global`
module _ (sc : Scope) (s t : State) where
  pub define_change : (fs : List (List ℕ)) → define_line sc s fs ≡ Ok t → (d : Definition) × (with_definition d s ≡ t)
  unfolding define_line
  define_change fs e =
      let u = and_then_law (definition_read sc fs) _ t e in
      let v = and_then_law (define_in u.0 s.definitions) _ t u.2 in
      (u.0, same_value v.2)

  pub global_change : (fs : List (List ℕ)) → global_line sc s fs ≡ Ok t → (ss : List Setting) × (read_all (global_field sc) fs ≡ Ok ss) × (with_settings ss s ≡ t)
  unfolding global_line global_read
  global_change fs e =
      let u = and_then_law (global_read sc fs) _ t e in
      let v = and_then_law (read_all (global_field sc) fs) _ u.0 u.1 in
      let w = required (not (null v.0)) MissingPart _ u.0 v.2 in
      let x = required (not (twice v.0)) OptionTwice _ u.0 w.1 in
      (v.0, v.1, ap (λ ss. with_settings ss s) (same_value x.1) ∙ same_value u.2)

module _ (q : Question) (line : ℕ) (s t : State) where
  by-define : (fs : List (List ℕ)) → define_line (scope_of q s) s fs ≡ Ok t → Change q line s t
  by-define fs e = let x = define_change (scope_of q s) s t fs e in defines x.0 x.1

  by-global : (fs : List (List ℕ)) → global_line (scope_of q s) s fs ≡ Ok t → Change q line s t
  by-global fs e = let x = global_change (scope_of q s) s t fs e in sets fs x.0 x.1 x.2

  -- ---- `:if`, with what the rest of the line does
  abbrev Deeper : Option (List (List ℕ) → Result State Cause) → Type 0
  Deeper None = Unit {0}
  Deeper (Some f) = (fs : List (List ℕ)) → f fs ≡ Ok t → Change q line s t

  by-rest : (deeper : List (List ℕ) → Result State Cause) → Deeper (Some deeper) → (fs : List (List ℕ)) (taken : Bool) → rest_if deeper s fs taken ≡ Ok t → Change q line s t
  by-rest deeper k fs true e = k fs e
  by-rest deeper k fs false e = stays (same_value e)

  by-if : (deeper : Option (List (List ℕ) → Result State Cause)) → Deeper deeper → (fs : List (List ℕ)) → if_line (scope_of q s) deeper s fs ≡ Ok t → Change q line s t
  unfolding if_line
  by-if None k fs e = never e
  by-if (Some deeper) k fs e = let u = and_then_law (comparison (scope_of q s) fs) _ t e in by-rest deeper k (drop 3 fs) u.0 u.2

  -- ---- all kinds of lines
  by-word : (deeper : Option (List (List ℕ) → Result State Cause)) → Deeper deeper → (fs : List (List ℕ)) (w : ColonWord) → by_word (scope_of q s) deeper s fs w ≡ Ok t → Change q line s t
  by-word deeper k fs Define e = by-define fs e
  by-word deeper k fs Global e = by-global fs e
  by-word deeper k fs If e = by-if deeper k fs e

  by-entry : (fs : List (List ℕ)) → entry_line q line s fs ≡ Ok t → Change q line s t
  unfolding entry_line
  by-entry fs e =
      let u = required s.shell EntryTooEarly _ t e in
      let v = and_then_law (entry_of (judge_for q) (scope_of q s) fs) _ t u.1 in
      enters fs v.0 v.1 (same_value v.2)

  by-kind : (deeper : Option (List (List ℕ) → Result State Cause)) → Deeper deeper → (fs : List (List ℕ)) (k : LineKind) → by_kind q line deeper s fs k ≡ Ok t → Change q line s t
  by-kind deeper d fs NoField e = stays (same_value e)
  by-kind deeper d [] Colon e = never e
  by-kind deeper d (f ∷ fs) Colon e = let u = and_then_law (field_as (scope_of q s) word_of f) _ t e in by-word deeper d fs u.0 u.2
  by-kind deeper d fs EntryKind e = by-entry fs e

  by-fields : (depth : ℕ) (fs : List (List ℕ)) → fields_read depth q line s fs ≡ Ok t → Change q line s t
  unfolding fields_read
  by-fields zero fs e = by-kind None tt fs (kind_of_line fs) e
  by-fields (suc depth) fs e = by-kind (Some (λ r. fields_read depth q line s r)) (λ r x. by-fields depth r x) fs (kind_of_line fs) e

pub line_change : (q : Question) (s t : State) (l : Line) → line_read q s l ≡ Ok t → Change q l.number s t
unfolding line_read
line_change q s t l e = let u = and_then_law (scanned l.bytes) _ t (beginning_value (and_then (scanned l.bytes) (fields_read if_depth q l.number s)) t e) in by-fields q l.number s t if_depth u.0 u.2

-- a fault of a control line is within the line
pub line_faults : (q : Question) → FaultsWithin (line_read q)
unfolding line_read
line_faults q s l x e = beginning_within (length l.bytes) (and_then (scanned l.bytes) (fields_read if_depth q l.number s)) x e

-- a line leaves the decision as it was, or makes the first one, with its own number
pub record Keeps (line : ℕ) (s t : State) : Type 0 where
  pub own : Option Verdict
  pub decides : t.decision ≡ option_or s.decision (option_map (decided_at line) own)

pub line_keeps : (q : Question) (s t : State) (l : Line) → line_read q s l ≡ Ok t → Keeps l.number s t
unfolding with_definition with_settings with_entry
line_keeps q s t l e = by (line_change q s t l e)
  where
    unchanged : s.decision ≡ t.decision → Keeps l.number s t
    unchanged d = record { own = None; decides = sym d ∙ sym (else_none s.decision) }

    by : Change q l.number s t → Keeps l.number s t
    by (stays x) = unchanged (ap (λ u. u.decision) x)
    by (defines d x) = unchanged (ap (λ u. u.decision) x)
    by (sets fs ss r x) = unchanged (ap (λ u. u.decision) x)
    by (enters fs c r x) = record { own = verdict_of q s.options s.arguments c; decides = sym (ap (λ u. u.decision) x) }
