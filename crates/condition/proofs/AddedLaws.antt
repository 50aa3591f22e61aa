-- What is kept with the alternatives of a condition, taken one by one.
use Rattle.std.specs.Prelude.{Err, None, Ok, Option, Result, Some, Bool, false, true}
use mathlib.Core.Path.{◌≡◌, refl, sym, ap, ◌∙◌}
use mathlib.Core.Bool.{Bool, true, false}
use mathlib.Core.List.{List, [], ◌∷◌, ◌++◌}
use Prim.Native.Nat.{ℕ, ◌+◌, ◌≤◌, ◌<◌}
use lib.ListN.{length, take, drop, get_or, drop_of_length-le}
use Rattle.text.specs.Contract.{Wrote}
use Rattle.text.proofs.Laws.{next_of}
use Rattle.text.proofs.Buffers.{wrote_read}
use Rattle.fault.specs.Fault.{and_then, needed, read_all}
use Rattle.fault.specs.declared.Cause.{Cause}
use Rattle.pattern.specs.declared.Syntax.{Syntax}
use Rattle.pattern.specs.Tree.{list_of}
use Rattle.pattern.specs.Contract.{expansions_in}
use Rattle.pattern.proofs.TopLevel.{First}
use Rattle.condition.specs.declared.rightmost.Rightmost.{Rightmost}
use Rattle.condition.specs.Rightmost.{Judged, judged}
use Rattle.condition.specs.Condition.{Sort, Judge, cause_for, alternative_read}
use Rattle.condition.specs.Contract.{added, added_all, added_by}

-- ---- one alternative, by what is found of it
module _ (judge : Judge) (negated : Bool) (s : Sort) (e : List ℕ) (r : Rightmost) where
  pub one_missing : None ≡ judge s e → Err (cause_for s) ≡ added_by r (read_all (alternative_read judge negated s) (e ∷ []))
  unfolding added_by read_all alternative_read
  one_missing p = rw (← p)

  pub one_found : (applies : Bool) → Some applies ≡ judge s e → Ok (added r (judged negated applies)) ≡ added_by r (read_all (alternative_read judge negated s) (e ∷ []))
  unfolding added_by added_all read_all alternative_read
  one_found applies p = rw (← p)

-- ---- some alternatives, and then more
module _ (f : List ℕ → Result Judged Cause) where
  -- what some came to, and then those of fs
  abbrev pub further : List (List ℕ) → Result Rightmost Cause → Result Rightmost Cause
  further fs (Err c) = Err c
  further fs (Ok t) = added_by t (read_all f fs)

  kept_first : (r : Rightmost) (x : Judged) (o : Result (List Judged) Cause) → added_by r (and_then o (λ xs. Ok (x ∷ xs))) ≡ added_by (added r x) o
  unfolding added_by added_all
  kept_first r x (Err d) = refl
  kept_first r x (Ok xs) = refl

  read_append : (es fs : List (List ℕ)) (r : Rightmost) → further fs (added_by r (read_all f es)) ≡ added_by r (read_all f (es ++ fs))
  unfolding added_by added_all read_all
  read_append [] fs r = refl
  read_append (e ∷ es) fs r = go (f e) (λ t. read_append es fs t)
    where
      go : (o : Result Judged Cause) → ((t : Rightmost) → further fs (added_by t (read_all f es)) ≡ added_by t (read_all f (es ++ fs)))
          → further fs (added_by r (and_then o (λ x. and_then (read_all f es) (λ xs. Ok (x ∷ xs))))) ≡ added_by r (and_then o (λ x. and_then (read_all f (es ++ fs)) (λ xs. Ok (x ∷ xs))))
      go (Err d) h = refl
      go (Ok x) h = ap (further fs) (kept_first r x (read_all f es)) ∙ h (added r x) ∙ sym (kept_first r x (read_all f (es ++ fs)))

  further_append : (r : Rightmost) (es fs : List (List ℕ)) (a : Result Rightmost Cause) → a ≡ added_by r (read_all f es) → further fs a ≡ added_by r (read_all f (es ++ fs))
  further_append r es fs a e = ap (further fs) e ∙ read_append es fs r

  module _ (r : Rightmost) where
    -- a turn of a loop over the expansions es, with the k-th at the beginning of a buffer
    module _ (es : List (List ℕ)) (k : ℕ) where
      pub each : k < length es → {old new : List ℕ} {q : Option ℕ} → Wrote old new 0 (get_or es k []) q → {n : ℕ} → q ≡ Some n → (a : Result Rightmost Cause) → a ≡ added_by r (read_all f (take n new ∷ [])) → further (drop (k + 1) es) a ≡ added_by r (read_all f (drop k es))
      each h {old} {new} w {n} d a e =
          let z : drop k es ≡ take n new ∷ drop (k + 1) es = rw (wrote_read w d) (next_of [] es k h) in
          rw z (further_append r (take n new ∷ []) (drop (k + 1) es) a e)

      pub each_end : length es ≤ k → Ok r ≡ added_by r (read_all f (drop k es))
      unfolding added_by added_all read_all
      each_end h = rw (drop_of_length-le es h)

    -- a turn of a loop over the alternatives of the top level, of which the first has the expansions es
    module _ (syntax : Syntax) (p : List ℕ) (at e : ℕ) (es : List (List ℕ)) (o : First syntax p at e es) where
      pub first : (a : Result Rightmost Cause) → a ≡ added_by r (read_all f es) → further o.rest a ≡ added_by r (read_all f (expansions_in (list_of syntax false (drop at p))))
      first a q = rw o.all (further_append r es o.rest a q)

      pub first_last : (t : Rightmost) → Ok t ≡ added_by r (read_all f es) → length p ≤ e → Ok t ≡ added_by r (read_all f (expansions_in (list_of syntax false (drop at p))))
      unfolding added_by added_all read_all
      first_last t q h = let g = first (Ok t) q in rw (o.last h) at g

      pub first_more : (t : Rightmost) → Ok t ≡ added_by r (read_all f es) → e < length p → added_by t (read_all f (expansions_in (list_of syntax false (drop (e + 1) p)))) ≡ added_by r (read_all f (expansions_in (list_of syntax false (drop at p))))
      first_more t q h = let g = first (Ok t) q in rw (o.more h).0 at g
