-- Bytes that stand nowhere in a text stand in none of its lines, and the bytes of a word that stand nowhere in a line stand in none of its fields. Assumes nothing.
use Rattle.std.specs.Prelude.{Ok}
use Rattle.std.specs.List.{list_all}
use mathlib.Core.Path.{◌≡◌, refl, sym, ap, ◌∙◌}
use mathlib.Core.Bool.{Bool, true, false, not, cond, ◌&&◌}
use mathlib.Core.List.{List, [], ◌∷◌, ◌++◌}
use Prim.Native.Nat.{ℕ, zero, suc, ◌+◌}
use borrow.Author.Tests.{eqb-true}
use lib.Dec.{eqb, leb}
use lib.ListN.{length, drop}
use Rattle.text.specs.Bytes.{is}
use Rattle.text.specs.Class.{blank, word_byte, letter, digit}
use Rattle.text.specs.Lists.{onto, with_byte}
use Rattle.text.specs.Slice.{starts_with, contains}
use Rattle.text.specs.declared.quote.Quoting.TheVariants.{Outside}
use Rattle.text.proofs.Contains.{contains_start, contains_rest, contains_none}
use Rattle.text.proofs.Laws.{both_true, both_of, false_of, untrue}
use Rattle.fault.specs.Fault.{require}
use Rattle.fault.specs.declared.Cause.TheVariants.{LineLength, Indent, OpenQuote, FieldCount}
use Rattle.fault.proofs.Readings.{same_value, required}
use Rattle.line.specs.Joined.{Mode, in_fields, in_comment, JoinedByte, kept, between, begins, leading, parts_fields, joins, join_blank, mode_after, mode_joined, joined_from, joined_line}
use Rattle.line.specs.Line.{ends_line, ended_lines, newlines, placed, lines_of}
use Rattle.line.specs.Scan.{most_joined, most_fields, stretches, non_empty, fields_of, checked, scanned}
use Rattle.line.proofs.JoinedLaws.{joined_step, joined_join}

-- the first part, empty where there is none
abbrev first_of : List (List ℕ) → List ℕ
first_of [] = []
first_of (p ∷ ps) = p

module _ (w : List ℕ) where
  -- the bytes stand nowhere in a part
  abbrev lacks : List ℕ → Bool
  lacks s = not (contains w s)

  -- a byte in front of the first part
  lacks_first : (b : ℕ) (p : List ℕ) (ps : List (List ℕ)) → starts_with w (b ∷ p) ≡ false → list_all lacks (p ∷ ps) ≡ true → list_all lacks ((b ∷ p) ∷ ps) ≡ true
  unfolding contains
  lacks_first b p ps e i = rw e i

  lacks_onto : (b : ℕ) (ps : List (List ℕ)) → starts_with w [] ≡ false → starts_with w (b ∷ first_of ps) ≡ false → list_all lacks ps ≡ true → list_all lacks (onto b ps) ≡ true
  unfolding contains
  lacks_onto b [] n e i = rw (e, n)
  lacks_onto b (p ∷ ps) n e i = lacks_first b p ps e i

  lacks_new : (ps : List (List ℕ)) → starts_with w [] ≡ false → list_all lacks ps ≡ true → list_all lacks ([] ∷ ps) ≡ true
  unfolding contains
  lacks_new ps n i = rw n i

-- ---- lines
-- the first line is what the text begins with
first_line : (w : List ℕ) (continues : ℕ → Bool) (after : Bool) (s : List ℕ) → starts_with w (first_of (ended_lines continues after s)) ≡ true → starts_with w s ≡ true
unfolding ended_lines
first_line [] continues after s e = refl
first_line (y ∷ w) continues after [] e = e
first_line (y ∷ w) continues after (b ∷ s) e = go (ends_line after b) (ended_lines continues (continues b) s) (first_line w continues (continues b) s) e
  where
    go : (t : Bool) (ls : List (List ℕ)) → (starts_with w (first_of ls) ≡ true → starts_with w s ≡ true) → starts_with (y ∷ w) (first_of (with_byte t b ls)) ≡ true → eqb y b && starts_with w s ≡ true
    go true ls f g = untrue g
    go false [] f g = untrue g
    go false (l ∷ ls) f g = let d = both_true (eqb y b) (starts_with w l) g in both_of d.0 (f d.1)

ended_lacks : (w : List ℕ) (continues : ℕ → Bool) (after : Bool) (s : List ℕ) → contains w s ≡ false → list_all (lacks w) (ended_lines continues after s) ≡ true
unfolding ended_lines
ended_lacks w continues after [] e = refl
ended_lacks w continues after (b ∷ s) e =
    go (ends_line after b) (ended_lines continues (continues b) s) (ended_lacks w continues (continues b) s (contains_rest w (b ∷ s) e))
    (false_of (starts_with w (first_of (ended_lines continues after (b ∷ s)))) (λ t. untrue (sym (contains_start w (b ∷ s) e) ∙ first_line w continues after (b ∷ s) t)))
  where
    go : (t : Bool) (ls : List (List ℕ)) → list_all (lacks w) ls ≡ true → starts_with w (first_of (with_byte t b ls)) ≡ false → list_all (lacks w) (with_byte t b ls) ≡ true
    go true ls i n = lacks_new w ls n i
    go false [] i n = refl
    go false (l ∷ ls) i n = lacks_first w b l ls n i

placed_lacks : (w : List ℕ) (at number : ℕ) (ls : List (List ℕ)) → list_all (λ l. lacks w l.bytes) (placed at number ls) ≡ list_all (lacks w) ls
unfolding placed
placed_lacks w at number [] = refl
placed_lacks w at number (s ∷ ls) = ap (λ (t : Bool). lacks w s && t) (placed_lacks w (at + length s + 1) (number + newlines s + 1) ls)

pub lines_contain : (w : List ℕ) (continues : ℕ → Bool) (t : List ℕ) → contains w t ≡ false → list_all (λ l. not (contains w l.bytes)) (lines_of continues t) ≡ true
lines_contain w continues t e = placed_lacks w 0 1 (ended_lines continues false t) ∙ ended_lacks w continues false t e

-- ---- fields
first_onto : (b : ℕ) (ps : List (List ℕ)) → first_of (onto b ps) ≡ b ∷ first_of ps
first_onto b [] = refl
first_onto b (p ∷ ps) = refl

-- a blank is no byte of a word
word_blank : (w p : List ℕ) → list_all word_byte w ≡ true → starts_with w [] ≡ false → starts_with w (32 ∷ p) ≡ false
unfolding word_byte letter digit
word_blank [] p a n = untrue (sym n)
word_blank (y ∷ v) p a n = false_of (eqb y 32 && starts_with v p) (λ t.
    let z = eqb-true y 32 (both_true (eqb y 32) (starts_with v p) t).0 in
    untrue (ap word_byte (sym z) ∙ (both_true (word_byte y) (list_all word_byte v) a).0))

-- no first stretch begins with a word where a join after a byte of a word comes first: that join gives a blank
join_stretch : (w : List ℕ) (m : Mode) (before : ℕ) (j : List JoinedByte) → list_all word_byte w ≡ true → starts_with w [] ≡ false → word_byte before ≡ true → starts_with w (first_of (stretches (join_blank m before ++ j))) ≡ false
unfolding stretches join_blank
join_stretch w in_comment before j a n h = n
join_stretch w (in_fields q) before j a n h = rw h (go (parts_fields (in_fields q) 32))
  where
    go : (t : Bool) → starts_with w (first_of (stretches (cond t between (kept 32) ∷ j))) ≡ false
    go true = n
    go false = rw (first_onto 32 (stretches j)) (word_blank w (first_of (stretches j)) a n)

-- after a byte of a word, the word that the first stretch begins with is the next of the line
first_stretch : (w : List ℕ) (hash : Bool) (m : Mode) (before : ℕ) (s : List ℕ) → list_all word_byte w ≡ true → word_byte before ≡ true → starts_with w (first_of (stretches (joined_from hash 0 m before s))) ≡ true → starts_with w s ≡ true
unfolding joined_from stretches
first_stretch [] hash m before s a h e = refl
first_stretch (y ∷ v) hash m before [] a h e = e
first_stretch (y ∷ v) hash m before (b ∷ s) a h e =
    let d = both_true (word_byte y) (list_all word_byte v) a in
    by (joins b s) refl (λ z. first_stretch v hash (mode_after m b) b s d.1 (ap word_byte z ∙ d.0))
  where
    -- the first stretch of the bytes behind b
    stretch : List ℕ
    stretch = first_of (stretches (joined_from hash 0 (mode_after m b) b s))

    step : (t : Bool) → (b ≡ y → starts_with v stretch ≡ true → starts_with v s ≡ true) → starts_with (y ∷ v) (first_of (stretches (cond t between (kept b) ∷ joined_from hash 0 (mode_after m b) b s))) ≡ true → starts_with (y ∷ v) (b ∷ s) ≡ true
    step true f g = untrue g
    step false f g =
        let k : eqb y b && starts_with v stretch ≡ true = rw (first_onto b (stretches (joined_from hash 0 (mode_after m b) b s))) at g in
        let d = both_true (eqb y b) (starts_with v stretch) k in
        both_of d.0 (f (sym (eqb-true y b d.0)) d.1)

    by : (t : Bool) → joins b s ≡ t → (b ≡ y → starts_with v stretch ≡ true → starts_with v s ≡ true) → starts_with (y ∷ v) (b ∷ s) ≡ true
    by true j f = untrue (sym (join_stretch (y ∷ v) m before (joined_from hash (suc (leading blank (drop 1 s))) (mode_joined hash m) b s) a refl h) ∙ rw (joined_join hash m before b s j) at e)
    by false j f = step (parts_fields m b) f (rw (joined_step hash m before b s j) at e)

-- a byte in front of such a stretch
kept_stretch : (w : List ℕ) (hash : Bool) (m : Mode) (b : ℕ) (s : List ℕ) → list_all word_byte w ≡ true → starts_with w (b ∷ s) ≡ false → starts_with w (b ∷ first_of (stretches (joined_from hash 0 m b s))) ≡ false
kept_stretch [] hash m b s a n = n
kept_stretch (y ∷ v) hash m b s a n = false_of (eqb y b && starts_with v (first_of (stretches (joined_from hash 0 m b s)))) (λ t.
    let d = both_true (word_byte y) (list_all word_byte v) a in
    let c = both_true (eqb y b) (starts_with v (first_of (stretches (joined_from hash 0 m b s)))) t in
    untrue (sym n ∙ both_of c.0 (first_stretch v hash m b s d.1 (ap word_byte (sym (eqb-true y b c.0)) ∙ d.0) c.1)))

-- a result that was checked and is given is the same
checked_value : {A : Type 0} (joined : ℕ) (indents quotes : Bool) (fields : ℕ) (x y : A) → checked joined indents quotes fields x ≡ Ok y → x ≡ y
unfolding checked
checked_value joined indents quotes fields x y e =
    let c = (required (leb joined most_joined) LineLength (require indents Indent (require quotes OpenQuote (require (leb fields most_fields) FieldCount (Ok x)))) y e).1 in
    let d = (required indents Indent (require quotes OpenQuote (require (leb fields most_fields) FieldCount (Ok x))) y c).1 in
    let f = (required quotes OpenQuote (require (leb fields most_fields) FieldCount (Ok x)) y d).1 in
    same_value (required (leb fields most_fields) FieldCount (Ok x) y f).1

module _ (w : List ℕ) (a : list_all word_byte w ≡ true) where
  join_lacks : (m : Mode) (before : ℕ) (j : List JoinedByte) → starts_with w [] ≡ false → list_all (lacks w) (stretches j) ≡ true → list_all (lacks w) (stretches (join_blank m before ++ j)) ≡ true
  unfolding stretches join_blank
  join_lacks in_comment before j n i = lacks_new w (stretches j) n i
  join_lacks (in_fields q) before j n i = go (word_byte before) (parts_fields (in_fields q) 32)
    where
      go : (t u : Bool) → list_all (lacks w) (stretches (cond t (cond u between (kept 32) ∷ []) [] ++ j)) ≡ true
      go false u = i
      go true true = lacks_new w (stretches j) n i
      go true false = lacks_onto w 32 (stretches j) n (word_blank w (first_of (stretches j)) a n) i

  stretches_lack : (hash : Bool) (n : ℕ) (m : Mode) (before : ℕ) (s : List ℕ) → contains w s ≡ false → list_all (lacks w) (stretches (joined_from hash n m before s)) ≡ true
  unfolding joined_from stretches
  stretches_lack hash n m before [] e = lacks_new w [] (contains_none w [] e) refl
  stretches_lack hash (suc n) m before (b ∷ s) e = stretches_lack hash n m b s (contains_rest w (b ∷ s) e)
  stretches_lack hash zero m before (b ∷ s) e =
      by (joins b s) refl (λ n m. stretches_lack hash n m b s (contains_rest w (b ∷ s) e))
    where
      none : starts_with w [] ≡ false
      none = contains_none w (b ∷ s) e

      step : (t : Bool) → list_all (lacks w) (stretches (joined_from hash 0 (mode_after m b) b s)) ≡ true → list_all (lacks w) (stretches (cond t between (kept b) ∷ joined_from hash 0 (mode_after m b) b s)) ≡ true
      step true i = lacks_new w (stretches (joined_from hash 0 (mode_after m b) b s)) none i
      step false i = lacks_onto w b (stretches (joined_from hash 0 (mode_after m b) b s)) none (kept_stretch w hash (mode_after m b) b s a (contains_start w (b ∷ s) e)) i

      by : (t : Bool) → joins b s ≡ t → ((n : ℕ) (m : Mode) → list_all (lacks w) (stretches (joined_from hash n m b s)) ≡ true) → list_all (lacks w) (stretches (joined_from hash 0 m before (b ∷ s))) ≡ true
      by true j i = rw (joined_join hash m before b s j) (join_lacks m before (joined_from hash (suc (leading blank (drop 1 s))) (mode_joined hash m) b s) none (i (suc (leading blank (drop 1 s))) (mode_joined hash m)))
      by false j i = rw (joined_step hash m before b s j) (step (parts_fields m b) (i 0 (mode_after m b)))

  -- empty stretches are no fields
  fields_lack : (ps : List (List ℕ)) → list_all (lacks w) ps ≡ true → list_all (lacks w) (non_empty ps) ≡ true
  unfolding non_empty
  fields_lack [] e = refl
  fields_lack ([] ∷ ps) e = fields_lack ps (both_true (lacks w []) (list_all (lacks w) ps) e).1
  fields_lack ((b ∷ p) ∷ ps) e = let d = both_true (lacks w (b ∷ p)) (list_all (lacks w) ps) e in both_of d.0 (fields_lack ps d.1)

  -- the fields of a line, and those that its scan gives
  pub fields_contain : (s : List ℕ) → contains w s ≡ false → list_all (λ f. not (contains w f)) (fields_of (joined_line s)) ≡ true
  unfolding fields_of joined_line
  fields_contain s e = fields_lack (stretches (joined_from (begins (is "#") s) 0 (in_fields Outside) 10 s)) (stretches_lack (begins (is "#") s) 0 (in_fields Outside) 10 s e)

  pub scanned_contain : (s : List ℕ) (fs : List (List ℕ)) → scanned s ≡ Ok fs → contains w s ≡ false → list_all (λ f. not (contains w f)) fs ≡ true
  unfolding scanned
  scanned_contain s fs e c =
      let q = checked_value _ _ _ _ (fields_of (joined_line s)) fs e in
      rw (← q) (fields_contain s c)
