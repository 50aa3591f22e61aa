-- What a control line does, by the kind of line, the colon word and the comparison; and the depth left for `:if`.
use Rattle.std.specs.Prelude.{Err, None, Ok, Option, Result, Some, Bool}
use mathlib.Core.Path.{◌≡◌, refl, sym, ap, ◌∙◌}
use mathlib.Core.Bool.{true, false}
use mathlib.Core.List.{List, []}
use Prim.Native.Nat.{ℕ, zero, suc, ◌+◌, ◌-◌, ◌<◌}
use native.Mathlib.Omega.{arith}
use native.Mathlib.Decide.{dec_le}
use lib.ListN.{length, drop, get_or, drop_of_length-le}
use lib.Seq.{drop-drop}
use Rattle.text.proofs.Laws.{next_of, clash}
use Rattle.fault.specs.Fault.{and_then}
use Rattle.fault.specs.declared.Cause.{Cause}
use Rattle.fault.specs.declared.Cause.TheVariants.{EntryTooEarly, IfDepth}
use Rattle.line.specs.declared.kind.LineKind.TheVariants.{NoField, Colon, Entry}
use Rattle.line.specs.Kind.{kind_of_line}
use Rattle.line.specs.Contract.{fields_in}
use Rattle.line.proofs.AccessLaws.{fields_count}
use Rattle.question.specs.Question.{Question}
use Rattle.variables.specs.Scope.{Scope, Definition}
use Rattle.variables.specs.Substitute.{field_as}
use Rattle.entry.specs.Entry.{entry_of}
use Rattle.reader.specs.State.{State, scope_of, with_entry}
use Rattle.reader.specs.Colon.{comparison, rest_if, if_line, word_of, by_word}
use Rattle.reader.specs.Read.{judge_for, entry_line, by_kind, fields_read}
use Rattle.reader.specs.declared.word.ColonWord.{ColonWord}

-- ---- where a line begins
-- a line with a colon has a field there
pub line_begins : (fs : List (List ℕ)) (n : ℕ) → Colon ≡ kind_of_line (drop n fs) → n < length fs
unfolding kind_of_line
line_begins fs n e = elim (dec_le (length fs) n) [ yes h ↦ clash (let k : Colon ≡ NoField = e ∙ rw (drop_of_length-le fs h) in cc) | no h ↦ omega arith ]

-- a line with a colon begins at one of the 64 fields
pub line_room : (text ends : List ℕ) (count n : ℕ) → Colon ≡ kind_of_line (drop n (fields_in text ends count)) → n < 64
line_room text ends count n e = omega (arith, line_begins (fields_in text ends count) n e, fields_count text ends count)

-- ---- the scope of the question and the variables by their parts
pub scope_parts : (q : Question) (s : State) {caller host : List ℕ} {ds : List Definition} → q.user ≡ caller → q.host ≡ host → s.definitions ≡ ds → scope_of q s ≡ record { caller = caller; host = host; definitions = ds }
scope_parts q s u h d = rw (u, h, d)

module _ (q : Question) (line : ℕ) (s : State) where
  -- ---- the depth left for `:if`
  -- the reader of the rest of an `:if`
  abbrev pub deeper : ℕ → Option (List (List ℕ) → Result State Cause)
  deeper zero = None
  deeper (suc d) = Some (λ rest. fields_read d q line s rest)

  fields_opened : (d : ℕ) (fs : List (List ℕ)) → fields_read d q line s fs ≡ by_kind q line (deeper d) s fs (kind_of_line fs)
  unfolding fields_read
  fields_opened zero fs = refl
  fields_opened (suc d) fs = refl

  deeper_left : (d : ℕ) → (d ≡ 0 → ⊥) → deeper d ≡ Some (λ rest. fields_read (d - 1) q line s rest)
  deeper_left zero h = absurd (h refl)
  deeper_left (suc d) h = let z : suc d - 1 ≡ d = omega arith in rw z

  -- ---- a line without a colon
  module _ (d : ℕ) (fs : List (List ℕ)) where
    pub line_nothing : NoField ≡ kind_of_line fs → fields_read d q line s fs ≡ Ok s
    line_nothing e = rw (fields_opened d fs, ← e)

    module _ (e : Entry ≡ kind_of_line fs) where
      pub line_entry : s.shell ≡ true → fields_read d q line s fs ≡ and_then (entry_of (judge_for q) (scope_of q s) fs) (λ x. Ok (with_entry q line x s))
      unfolding entry_line
      line_entry h = rw (fields_opened d fs, ← e, h)

      pub line_early : s.shell ≡ false → fields_read d q line s fs ≡ Err EntryTooEarly
      unfolding entry_line
      line_early h = rw (fields_opened d fs, ← e, h)

  -- ---- a line with a colon
  module _ (d : ℕ) (fs : List (List ℕ)) (n : ℕ) {sc : Scope} (scope : scope_of q s ≡ sc) where
    -- it is what its word says
    pub line_word : {f : List ℕ} {w : Result ColonWord Cause} → Colon ≡ kind_of_line (drop n fs) → f ≡ get_or fs n [] → w ≡ field_as sc word_of f → fields_read d q line s (drop n fs) ≡ and_then w (by_word (scope_of q s) (deeper d) s (drop (n + 1) fs))
    line_word {f} {w} e g k = fields_opened d (drop n fs) ∙ ap (by_kind q line (deeper d) s (drop n fs)) (sym e) ∙ rw (next_of [] fs n (line_begins fs n e), ← g, scope) (ap (λ o. and_then o (by_word sc (deeper d) s (drop (n + 1) fs))) (sym k))

    -- `:if` where no depth is left
    pub if_deep : d ≡ 0 → if_line (scope_of q s) (deeper d) s (drop (n + 1) fs) ≡ Err IfDepth
    unfolding if_line
    if_deep h = rw h

    -- `:if` is what its comparison says
    pub if_compared : {v : Result Bool Cause} → (d ≡ 0 → ⊥) → v ≡ comparison sc (drop (n + 1) fs) → if_line (scope_of q s) (deeper d) s (drop (n + 1) fs) ≡ and_then v (rest_if (λ xs. fields_read (d - 1) q line s xs) s (drop (n + 4) fs))
    unfolding if_line
    if_compared h k =
        let z : n + 1 + 3 ≡ n + 4 = omega arith in
        let y : drop 3 (drop (n + 1) fs) ≡ drop (n + 4) fs = drop-drop 3 (n + 1) fs ∙ ap (λ m. drop m fs) z in
        rw (deeper_left d h, scope, y) (ap (λ o. and_then o (rest_if (λ xs. fields_read (d - 1) q line s xs) s (drop (n + 4) fs))) (sym k))
