-- A control line in which the bytes HOST stand nowhere is read alike from two hosts, where every condition is judged alike. Assumes nothing.
use Rattle.std.specs.Prelude.{Err, None, Ok, Option, Result, Some}
use mathlib.Core.Path.{◌≡◌, refl, ap, ◌∙◌}
use mathlib.Core.Bool.{Bool, true, false}
use mathlib.Core.List.{List, [], ◌∷◌}
use Prim.Native.Nat.{ℕ, zero, suc}
use lib.ListN.{drop}
use Rattle.text.specs.Bytes.{bytes}
use Rattle.text.specs.Class.{letter, digit, word_byte}
use Rattle.text.specs.Slice.{contains}
use Rattle.fault.specs.declared.Cause.{Cause}
use Rattle.fault.specs.declared.Cause.TheVariants.{EntryTooEarly}
use Rattle.fault.specs.Fault.{and_then, require}
use Rattle.fault.proofs.Alike.{then_alike, all_alike, first_alike, each_drop}
use Rattle.line.specs.declared.kind.LineKind.{LineKind}
use Rattle.line.specs.declared.kind.LineKind.TheVariants.{NoField, Colon, Entry as EntryKind}
use Rattle.line.specs.Line.{Line}
use Rattle.line.specs.Fold.{at_beginning}
use Rattle.line.specs.Kind.{kind_of_line}
use Rattle.line.specs.Scan.{scanned}
use Rattle.line.proofs.AlikeLaws.{each_failing}
use Rattle.line.proofs.ContainsLaws.{scanned_contain}
use Rattle.question.specs.Question.{Question, with_host}
use Rattle.variables.specs.Scope.{Scope}
use Rattle.variables.specs.Define.{define_name, define_text}
use Rattle.variables.proofs.HostLaws.{text_alike}
use Rattle.options.specs.Options.{Options}
use Rattle.options.specs.Arguments.{ArgumentPattern}
use Rattle.entry.specs.Entry.{entry_of}
use Rattle.entry.specs.Field.{Entry}
use Rattle.entry.specs.Path.{path_for}
use Rattle.entry.specs.Verdict.{verdict_on, verdict_if, verdict_of}
use Rattle.entry.proofs.HostLaws.{SameTexts, field_alike, entry_alike}
use Rattle.reader.specs.State.{State, scope_of, with_entry}
use Rattle.reader.specs.Colon.{last_read, definition_read, define_line, global_setting, global_field, global_read, global_line, operator_of, comparison, rest_if, if_line, word_of, by_word}
use Rattle.reader.specs.declared.word.ColonWord.{ColonWord}
use Rattle.reader.specs.declared.word.ColonWord.TheVariants.{Define, Global, If}
use Rattle.reader.specs.Read.{judge_for, entry_line, by_kind, fields_read, if_depth, line_read}

-- ---- colon lines, in two scopes that give each field the same text
module _ (sc other : Scope) where
  last_alike : (t : List ℕ) (fs : List (List ℕ)) → SameTexts sc other fs → last_read sc t fs ≡ last_read other t fs
  last_alike t [] h = refl
  last_alike t (f ∷ fs) h = field_alike sc other _ f h.0

  definition_alike : (fs : List (List ℕ)) → SameTexts sc other fs → definition_read sc fs ≡ definition_read other fs
  unfolding definition_read
  definition_alike = first_alike (field_alike sc other define_name) (λ n fs h. rw (first_alike (field_alike sc other define_text) last_alike fs h))

  global_alike : (fs : List (List ℕ)) → SameTexts sc other fs → global_read sc fs ≡ global_read other fs
  unfolding global_read
  global_alike fs h = rw (all_alike {f = global_field sc} {g = global_field other} (field_alike sc other global_setting) fs h)

  comparison_alike : (fs : List (List ℕ)) → SameTexts sc other fs → comparison sc fs ≡ comparison other fs
  unfolding comparison
  comparison_alike = first_alike (λ f e. e) (λ a. first_alike (field_alike sc other operator_of) (λ o. first_alike (λ f e. e) (λ b fs h. refl)))

  -- readers of the rest of an `:if` line that agree: none, or the same of fields with the same texts
  data Deeper : Option (List (List ℕ) → Result State Cause) → Option (List (List ℕ) → Result State Cause) → Type 0 where
    no_deeper : Deeper None None
    deeper : {d e : List (List ℕ) → Result State Cause} → ((fs : List (List ℕ)) → SameTexts sc other fs → d fs ≡ e fs) → Deeper (Some d) (Some e)

  rest_alike : (d e : List (List ℕ) → Result State Cause) (s : State) (fs : List (List ℕ)) → d fs ≡ e fs → (taken : Bool) → rest_if d s fs taken ≡ rest_if e s fs taken
  rest_alike d e s fs g true = g
  rest_alike d e s fs g false = refl

  word_alike : {d e : Option (List (List ℕ) → Result State Cause)} → Deeper d e → (s : State) (w : ColonWord) (fs : List (List ℕ)) → SameTexts sc other fs → by_word sc d s fs w ≡ by_word other e s fs w
  unfolding define_line global_line if_line
  word_alike g s Define fs h = rw (definition_alike fs h)
  word_alike g s Global fs h = rw (global_alike fs h)
  word_alike no_deeper s If fs h = refl
  word_alike (deeper {d} {e} g) s If fs h = then_alike (comparison other fs) (comparison_alike fs h) (rest_alike d e s (drop 3 fs) (g (drop 3 fs) (each_drop _ 3 fs h)))

-- ---- an entry's verdict does not look at the host
verdict_alike : (k : List ℕ) (q : Question) (o : Options) (ps : List ArgumentPattern) (e : Entry) → verdict_of q o ps e ≡ verdict_of (with_host k q) o ps e
unfolding verdict_of verdict_on
verdict_alike k q o ps e = go (path_for q.command e.pairs)
  where
    go : (p : Option (List ℕ)) → verdict_if q o ps e p ≡ verdict_if (with_host k q) o ps e p
    go None = refl
    go (Some p) = refl

-- ---- every kind of line, from a host and from the host k
module _ (k : List ℕ) (q : Question) (judges : judge_for q ≡ judge_for (with_host k q)) where
  module _ (line : ℕ) (s : State) where
    -- each field has the same text from both hosts
    abbrev Same : List (List ℕ) → Type 0
    Same = SameTexts (scope_of q s) (scope_of (with_host k q) s)

    entry_line_alike : (fs : List (List ℕ)) → Same fs → entry_line q line s fs ≡ entry_line (with_host k q) line s fs
    unfolding entry_line with_entry
    entry_line_alike fs h = ap (require s.shell EntryTooEarly) (then_alike (entry_of (judge_for (with_host k q)) (scope_of (with_host k q) s) fs) (entry_alike _ _ (judge_for q) fs h ∙ rw judges) (λ e. rw (verdict_alike k q s.options s.arguments e)))

    kind_alike : {d e : Option (List (List ℕ) → Result State Cause)} → Deeper (scope_of q s) (scope_of (with_host k q) s) d e → (fs : List (List ℕ)) (x : LineKind) → Same fs → by_kind q line d s fs x ≡ by_kind (with_host k q) line e s fs x
    kind_alike g fs NoField h = refl
    kind_alike g fs Colon h = first_alike (field_alike _ _ word_of) (word_alike _ _ g s) fs h
    kind_alike g fs EntryKind h = entry_line_alike fs h

    fields_alike : (depth : ℕ) (fs : List (List ℕ)) → Same fs → fields_read depth q line s fs ≡ fields_read depth (with_host k q) line s fs
    unfolding fields_read
    fields_alike zero fs h = kind_alike no_deeper fs (kind_of_line fs) h
    fields_alike (suc depth) fs h = kind_alike (deeper (fields_alike depth)) fs (kind_of_line fs) h

  pub line_alike : (l : Line) → contains (bytes "HOST") l.bytes ≡ false → (s : State) → line_read q s l ≡ line_read (with_host k q) s l
  unfolding line_read word_byte letter digit
  line_alike l e s = ap at_beginning (go (scanned l.bytes) refl)
    where
      go : (r : Result (List (List ℕ)) Cause) → scanned l.bytes ≡ r → and_then r (fields_read if_depth q l.number s) ≡ and_then r (fields_read if_depth (with_host k q) l.number s)
      go (Err c) f = refl
      go (Ok fs) f = fields_alike l.number s if_depth fs (each_failing (contains (bytes "HOST")) (text_alike q.user q.host k s.definitions) fs (scanned_contain (bytes "HOST") refl l.bytes fs f e))
