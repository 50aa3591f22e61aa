-- What the scan of a control line answers, and what a caller reads of it.
use Rattle.std.specs.Prelude.{Err, Ok, Result}
use mathlib.Core.Path.{◌≡◌, refl, sym, ap, ◌∙◌}
use mathlib.Core.Bool.{Bool, true, false, not, ◌&&◌, ◌||◌}
use mathlib.Core.List.{List, [], ◌∷◌, ◌++◌, append_assoc}
use Prim.Native.Nat.{ℕ, suc, ◌+◌, ◌-◌, ◌≤◌, min}
use native.Mathlib.Nat.{zero-add}
use native.Mathlib.Omega.{arith}
use borrow.Author.Tests.{leb-true, ne_eqb}
use lib.Dec.{eqb, leb}
use lib.ListN.{length, take, drop, get_or, length-append}
use lib.Seq.{take_all, take-append_seam, drop-append_seam}
use Rattle.text.specs.Bytes.{is}
use Rattle.text.specs.Class.{blank}
use Rattle.text.specs.Lists.{null}
use Rattle.text.specs.declared.quote.Quoting.TheVariants.{Outside}
use Rattle.text.proofs.Laws.{clash, either_no}
use Rattle.text.proofs.Buffers.{laid_length, laid_is}
use Rattle.fault.specs.Fault.{and_then, require}
use Rattle.fault.specs.declared.Cause.{Cause}
use Rattle.fault.specs.declared.Cause.TheVariants.{LineLength, Indent, OpenQuote, FieldCount}
use Rattle.line.specs.declared.counts.Counts.{Counts}
use Rattle.line.specs.declared.scanner.Scanner.{Scanner}
use Rattle.line.specs.Joined.{begins, unquoted, joined_from, joined_line, indented}
use Rattle.line.specs.Scan.{stretches, non_empty, fields_of, quoting_at_end, checked, scanned}
use Rattle.line.specs.Contract.{mode_of, quoting_of, Progress, progress, closed_off, absorbed_all, start_of, Goes, fields_at, fields_in, ends_from, fields_text, Scans}
use Rattle.line.proofs.JoinedLaws.{at_end_law, indented_end}
use Rattle.line.proofs.ProgressLaws.{closed_joined}
use Rattle.line.proofs.FieldsLaws.{all_joined, all_text, laid_fields, text_few}
use Rattle.line.proofs.ScannerLaws.{goes_none}

-- an empty line has no field, so that a caller need not scan it
pub scanned_empty : scanned [] ≡ Ok []
unfolding scanned checked joined_line joined_from indented fields_of stretches non_empty quoting_at_end
scanned_empty = refl

-- ---- the answer
told_count : (joined : ℕ) (indents quotes : Bool) (fs : List (List ℕ)) → (checked joined indents quotes (length fs) (length fs)) ≡ (and_then (checked joined indents quotes (length fs) fs) (λ x. Ok (length x)))
unfolding checked
told_count joined indents quotes fs = go (leb joined 4096) indents quotes (leb (length fs) 64)
  where
    go : (a b c d : Bool) → (require a LineLength (require b Indent (require c OpenQuote (require d FieldCount (Ok (length fs)))))) ≡ (and_then (require a LineLength (require b Indent (require c OpenQuote (require d FieldCount (Ok fs))))) (λ x. Ok (length x)))
    go true true true true = refl
    go true true true false = refl
    go true true false d = refl
    go true false c d = refl
    go false b c d = refl

null_count : (fs : List (List ℕ)) → eqb (length fs) 0 ≡ null fs
null_count [] = refl
null_count (f ∷ fs) = ne_eqb (length (f ∷ fs)) 0 (λ z. omega arith)

not-not : (t : Bool) → not (not t) ≡ t
not-not true = refl
not-not false = refl

-- ---- the line's end
-- by the first byte, or a newline
pub begins_first : (f : ℕ → Bool) (s : List ℕ) → f 10 ≡ false → f (get_or s 0 10) ≡ begins f s
begins_first f [] e = e
begins_first f (b ∷ s) e = refl

pub first_blank : (s : List ℕ) → blank (get_or s 0 10) ≡ begins blank s
unfolding blank
first_blank s = begins_first (λ b. blank b) s refl

pub starts : (line text ends : List ℕ) {first : ℕ} {s : Scanner} → first ≡ get_or line 0 10 → s ≡ start_of (is "#" first) → Goes line (start_of (begins (is "#") line)) text ends s text ends
starts line text ends e f = rw (f, e, begins_first (is "#") line refl) (goes_none (record { within = omega arith; few = record { fewer = omega arith; less = omega arith; most = omega arith } }))

module _ {line text ends : List ℕ} {s : Scanner} {text' ends' : List ℕ} (w : Goes line (start_of (begins (is "#") line)) text ends s text' ends') (h : length line ≤ s.at) where
  end_laid : progress s.counts text' ends' ≡ absorbed_all (progress (start_of true).counts text ends) (joined_line line)
  unfolding absorbed_all joined_line
  end_laid = ap (absorbed_all (progress s.counts text' ends')) (sym (at_end_law s.hash (mode_of s.mode) line s.at h)) ∙ w.made

  end_quoting : quoting_of (mode_of s.mode) ≡ quoting_at_end Outside (joined_line line)
  unfolding quoting_at_end joined_line
  end_quoting = ap (quoting_at_end (quoting_of (mode_of s.mode))) (sym (at_end_law s.hash (mode_of s.mode) line s.at h)) ∙ w.quotes

  end_bare : not s.bare ≡ indented line
  end_bare = ap not (sym (either_no s.bare) ∙ rw (indented_end line s.at h) at w.bares) ∙ not-not (indented line)

  pub scans : {n : Counts} {ends'' : List ℕ} {r : (Result ℕ Cause)} → ((t : List ℕ) → progress n t ends'' ≡ closed_off (progress s.counts t ends')) → r ≡ (checked n.joined ((s.hash || not s.bare) && (not (begins blank line) || eqb n.fields 0)) (unquoted (quoting_of (mode_of s.mode))) n.fields n.fields) → Scans line text text' ends ends'' r
  unfolding scanned
  scans {n} {ends''} {r} e f =
      let j = joined_line line in
      let p = progress (start_of true).counts text ends in
      let c : progress n text' ends'' ≡ closed_off (absorbed_all p j) = e text' ∙ ap closed_off end_laid in
      let d = laid_fields p j refl in
      let k : n.joined ≡ length j = ap (λ (q : Progress). q.joined) c ∙ closed_joined (absorbed_all p j) ∙ all_joined p j ∙ zero-add (length j) in
      let g : n.fields ≡ length (fields_of j) = ap (λ (q : Progress). q.fields) c ∙ d.number ∙ zero-add (length (fields_of j)) in
      record {
        bytes = ap (λ (q : Progress). q.text) end_laid ∙ all_text p j;
        places = ap (λ (q : Progress). q.ends) c ∙ d.places;
        answer = f ∙ rw (k, g, w.hash, end_bare, end_quoting, null_count (fields_of j)) (told_count (length j) _ _ (fields_of j));
      }

-- ---- what a caller reads, in a buffer that has room for every joined line
checked_good : {A : Type 0} (joined : ℕ) (indents quotes : Bool) (fields : ℕ) (x y : A) → checked joined indents quotes fields x ≡ Ok y → (joined ≤ 4096) × (fields ≤ 64) × (x ≡ y)
unfolding checked
checked_good {A} joined indents quotes fields x y e = go (leb joined 4096) indents quotes (leb fields 64) refl refl e
  where
    go : (a b c d : Bool) → leb joined 4096 ≡ a → leb fields 64 ≡ d → require a LineLength (require b Indent (require c OpenQuote (require d FieldCount (Ok x)))) ≡ Ok y → (joined ≤ 4096) × (fields ≤ 64) × (x ≡ y)
    go true true true true k l f = (leb-true joined 4096 k, leb-true fields 64 l, cc)
    go true true true false k l f = clash cc
    go true true false d k l f = clash cc
    go true false c d k l f = clash cc
    go false b c d k l f = clash cc

told_good : (x : Result (List (List ℕ)) Cause) (n : ℕ) → (and_then x (λ fs. Ok (length fs))) ≡ Ok n → (fs : List (List ℕ)) × (x ≡ Ok fs) × (length fs ≡ n)
told_good (Ok fs) n e = (fs, refl, cc)
told_good (Err c) n e = clash cc

told_fault : (x : Result (List (List ℕ)) Cause) (c : Cause) → (and_then x (λ fs. Ok (length fs))) ≡ Err c → x ≡ Err c
told_fault (Ok fs) c e = clash cc
told_fault (Err d) c e = cc

-- fields laid one behind the other are told by their ends
read_back : (t pre rest more : List ℕ) (fs : List (List ℕ)) → t ≡ pre ++ (fields_text fs ++ rest) → fields_at t (length pre) (ends_from (length pre) fs ++ more) (length fs) ≡ fs
unfolding fields_at ends_from fields_text
read_back t pre rest more [] e = refl
read_back t pre rest more (f ∷ fs) e =
    let z : length pre + length f - length pre ≡ length f = omega arith in
    let a : t ≡ pre ++ (f ++ (fields_text fs ++ rest)) = e ∙ ap (λ x. pre ++ x) (append_assoc f (fields_text fs) rest) in
    let b : take (length f) (drop (length pre) t) ≡ f = rw (a, drop-append_seam pre (f ++ (fields_text fs ++ rest))) (take-append_seam f (fields_text fs ++ rest)) in
    let c : fields_at t (length pre + length f) (ends_from (length pre + length f) fs ++ more) (length fs) ≡ fs = rw (length-append pre f) at (read_back t (pre ++ f) rest more fs (a ∙ sym (append_assoc pre f (fields_text fs ++ rest)))) in
    rw (z, b, c)

ends_length : (n : ℕ) (fs : List (List ℕ)) → length (ends_from n fs) ≡ length fs
unfolding ends_from
ends_length n [] = refl
ends_length n (f ∷ fs) = ap suc (ends_length (n + length f) fs)

module _ {line text text' ends ends' : List ℕ} {r : (Result ℕ Cause)} (w : Scans line text text' ends ends' r) where
  pub scans_length : length text' ≡ length text
  scans_length = ap length w.bytes ∙ laid_length text 0 (fields_text (fields_of (joined_line line)))

  pub scans_fault : {c : Cause} → r ≡ Err c → scanned line ≡ Err c
  scans_fault {c} e = told_fault (scanned line) c (sym w.answer ∙ e)

  pub scans_good : {n : ℕ} → r ≡ Ok n → 4096 ≤ length text → length ends ≡ 64 → (scanned line ≡ Ok (fields_in text' ends' n)) × (n ≤ 64)
  unfolding scanned fields_in
  scans_good {n} e h l =
      let j = joined_line line in
      let fs = fields_of j in
      let g = told_good (scanned line) n (sym w.answer ∙ e) in
      let k = checked_good (length j) _ _ (length fs) fs g.0 g.1 in
      let m : min n 64 ≡ length fs = omega (arith, k.1, ap length k.2, g.2) in
      let o : take 64 (ends_from 0 fs) ≡ ends_from 0 fs = take_all 64 (ends_from 0 fs) (omega (arith, ends_length 0 fs, k.1)) in
      let x : 0 + length (ends_from 0 fs) ≤ length ends = omega (arith, ends_length 0 fs, k.1) in
      let y : 0 + length (fields_text fs) ≤ length text = omega (arith, text_few j, k.0) in
      let p : ends' ≡ ends_from 0 fs ++ drop (0 + length (ends_from 0 fs)) ends = w.places ∙ rw o (laid_is ends 0 (ends_from 0 fs) x) in
      let q : text' ≡ fields_text fs ++ drop (0 + length (fields_text fs)) text = w.bytes ∙ laid_is text 0 (fields_text fs) y in
      (g.1 ∙ ap Ok (sym (rw (m, p) (read_back text' [] (drop (0 + length (fields_text fs)) text) (drop (0 + length (ends_from 0 fs)) ends) fs q) ∙ k.2)), omega (arith, k.1, ap length k.2, g.2))
