-- What holds of every condition: which faults it has does not depend on the judge, and one that is read has an alternative.
use Rattle.std.specs.Option.{option_map}
use Rattle.std.specs.Prelude.{Err, None, Ok, Option, Result, Some}
use mathlib.Core.Path.{◌≡◌, refl, sym, ap, ◌∙◌, fun_ext}
use mathlib.Core.Bool.{Bool, true, false, not, cond, ◌&&◌, ◌||◌}
use mathlib.Core.List.{List, [], ◌∷◌, map}
use Prim.Native.Nat.{ℕ, ◌<◌}
use native.Mathlib.Omega.{arith}
use lib.ListN.{length, drop, length-map}
use Rattle.text.specs.Lists.{has, null}
use Rattle.text.specs.Slice.{head_is}
use Rattle.text.proofs.Laws.{pick_of, clash}
use Rattle.fault.specs.Fault.{and_then, needed, read_all, require}
use Rattle.fault.specs.declared.Cause.{Cause}
use Rattle.fault.specs.declared.Cause.TheVariants.{OptionName}
use Rattle.pattern.specs.declared.Syntax.{Syntax}
use Rattle.pattern.specs.Tree.{expanded}
use Rattle.pattern.proofs.WholeLaws.{expanded_some}
use Rattle.condition.specs.Rightmost.{Judged, judged}
use Rattle.condition.specs.Condition.{Sort, Judge, Prefixed, prefixed, kind_for, cause_for, alternative_read, alternatives_of, Condition, condition_in, condition_behind, condition_of}
use Rattle.condition.specs.Contract.{judge_if}

-- ---- faults, sorts and numbers of alternatives are the same whether something is judged or not
-- an alternative as it is heard where something is judged, or nothing is
abbrev pub heard : Bool → Judged → Judged
heard judging x = judged x.negated (judging && x.applies)

abbrev pub heard_in : Bool → Condition → Condition
heard_in judging c = record { sort = c.sort; alternatives = map (heard judging) c.alternatives }

module _ (b : Bool) (j : Judge) where
  alternative_heard : (n : Bool) (s : Sort) (e : List ℕ) → alternative_read (judge_if b j) n s e ≡ and_then (alternative_read j n s e) (λ x. Ok (heard b x))
  unfolding alternative_read
  alternative_heard n s e = go (j s e)
    where
      go : (o : Option Bool) → needed (cause_for s) (option_map (λ a. b && a) o) (λ a. Ok (judged n a)) ≡ and_then (needed (cause_for s) o (λ a. Ok (judged n a))) (λ x. Ok (heard b x))
      go None = refl
      go (Some a) = refl

  each_heard : (n : Bool) (s : Sort) (es : List (List ℕ)) → read_all (alternative_read (judge_if b j) n s) es ≡ and_then (read_all (alternative_read j n s) es) (λ xs. Ok (map (heard b) xs))
  unfolding read_all
  each_heard n s [] = refl
  each_heard n s (e ∷ es) = rw (alternative_heard n s e, each_heard n s es) (go (alternative_read j n s e) (read_all (alternative_read j n s) es))
    where
      go : (o : Result Judged Cause) (os : Result (List Judged) Cause)
          → and_then (and_then o (λ x. Ok (heard b x))) (λ y. and_then (and_then os (λ xs. Ok (map (heard b) xs))) (λ ys. Ok (y ∷ ys))) ≡ and_then (and_then o (λ y. and_then os (λ ys. Ok (y ∷ ys)))) (λ xs. Ok (map (heard b) xs))
      go (Err c) os = refl
      go (Ok x) (Err c) = refl
      go (Ok x) (Ok xs) = refl

  alternatives_heard : (n : Bool) (s : Sort) (p : List ℕ) → alternatives_of (judge_if b j) n s p ≡ and_then (alternatives_of j n s p) (λ xs. Ok (map (heard b) xs))
  unfolding alternatives_of
  alternatives_heard n s p = go (expanded (kind_for s) p)
    where
      go : (o : Result (List (List ℕ)) Cause) → and_then o (read_all (alternative_read (judge_if b j) n s)) ≡ and_then (and_then o (read_all (alternative_read j n s))) (λ xs. Ok (map (heard b) xs))
      go (Err c) = refl
      go (Ok es) = each_heard n s es

  in-heard : (n q : Bool) (c : Prefixed) → condition_in (judge_if b j) n q c ≡ and_then (condition_in j n q c) (λ x. Ok (heard_in b x))
  in-heard n q c = rw (alternatives_heard n c.sort c.pattern) (go (c.written || not q) (alternatives_of j n c.sort c.pattern))
    where
      go : (t : Bool) (o : Result (List Judged) Cause)
          → require t OptionName (and_then (and_then o (λ xs. Ok (map (heard b) xs))) (λ xs. Ok (record { sort = c.sort; alternatives = xs }))) ≡ and_then (require t OptionName (and_then o (λ xs. Ok (record { sort = c.sort; alternatives = xs })))) (λ x. Ok (heard_in b x))
      go false o = refl
      go true (Err d) = refl
      go true (Ok xs) = refl

  -- so a fault stays the same fault, and a condition has as many alternatives of the same sort
  pub condition_heard : (t : List ℕ) → condition_of (judge_if b j) t ≡ and_then (condition_of j t) (λ x. Ok (heard_in b x))
  unfolding condition_of condition_behind
  condition_heard t = go (head_is 33 t)
    where
      go : (h : Bool) → cond h (condition_behind (judge_if b j) true (drop 1 t)) (condition_behind (judge_if b j) false t) ≡ and_then (cond h (condition_behind j true (drop 1 t)) (condition_behind j false t)) (λ x. Ok (heard_in b x))
      go true = in-heard true (has 61 (drop 1 t)) (prefixed (drop 1 t))
      go false = in-heard false (has 61 t) (prefixed t)

-- where something is judged, the judge is heard
pub judging_is : (j : Judge) → judge_if true j ≡ j
judging_is j = fun_ext (λ s. fun_ext (λ e. go (j s e)))
  where
    go : (o : Option Bool) → option_map (λ b. true && b) o ≡ o
    go None = refl
    go (Some b) = refl

-- the same fault, or the same sort and as many alternatives
abbrev pub Alike : Result Condition Cause → Result Condition Cause → Type 0
Alike (Err c) (Err d) = c ≡ d
Alike (Err c) (Ok y) = ⊥
Alike (Ok x) (Err d) = ⊥
Alike (Ok x) (Ok y) = (x.sort ≡ y.sort) × (length x.alternatives ≡ length y.alternatives)

-- two judges that find the same expansions malformed
pub condition_alike : (j k : Judge) → ((s : Sort) (e : List ℕ) → judge_if false j s e ≡ judge_if false k s e) → (t : List ℕ) → Alike (condition_of j t) (condition_of k t)
condition_alike j k h t =
    go (condition_of j t) (condition_of k t) (sym (condition_heard false j t) ∙ ap (λ (i : Judge). condition_of i t) (fun_ext (λ s. fun_ext (λ e. h s e))) ∙ condition_heard false k t)
  where
    go : (a b : Result Condition Cause) → and_then a (λ x. Ok (heard_in false x)) ≡ and_then b (λ x. Ok (heard_in false x)) → Alike a b
    go (Err c) (Err d) e = cc
    go (Err c) (Ok y) e = clash cc
    go (Ok x) (Err d) e = clash cc
    go (Ok x) (Ok y) e =
        let q : heard_in false x ≡ heard_in false y = cc in
        (ap (λ z. z.sort) q, sym (length-map x.alternatives _) ∙ ap (λ z. length z.alternatives) q ∙ length-map y.alternatives _)

-- ---- a condition that is read has an alternative
module _ {A : Type 0} where
  abbrev Filled : Result (List A) Cause → Type 0
  Filled (Err c) = Unit {0}
  Filled (Ok xs) = null xs ≡ false

some_expanded : (syntax : Syntax) (p : List ℕ) → Filled (expanded syntax p)
some_expanded syntax p = go (expanded syntax p) refl
  where
    there : (es : List (List ℕ)) → 0 < length es → null es ≡ false
    there [] h = absurd (omega arith)
    there (e ∷ es) h = refl

    go : (o : Result (List (List ℕ)) Cause) → expanded syntax p ≡ o → Filled o
    go (Err c) q = tt
    go (Ok es) q = there es (expanded_some syntax p es q).0

some_each : (f : List ℕ → Result Judged Cause) (o : Result (List (List ℕ)) Cause) → Filled o → Filled (and_then o (read_all f))
unfolding read_all
some_each f (Err c) h = tt
some_each f (Ok []) h = h
some_each f (Ok (e ∷ es)) h = go (f e) (read_all f es)
  where
    go : (o : Result Judged Cause) (os : Result (List Judged) Cause) → Filled (and_then o (λ y. and_then os (λ ys. Ok (y ∷ ys))))
    go (Err c) os = tt
    go (Ok x) (Err c) = tt
    go (Ok x) (Ok xs) = refl

abbrev SomeIn : Result Condition Cause → Type 0
SomeIn (Err c) = Unit {0}
SomeIn (Ok c) = null c.alternatives ≡ false

some_in : (j : Judge) (n q : Bool) (c : Prefixed) → SomeIn (condition_in j n q c)
unfolding alternatives_of
some_in j n q c = go (c.written || not q) (alternatives_of j n c.sort c.pattern) (some_each (alternative_read j n c.sort) (expanded (kind_for c.sort) c.pattern) (some_expanded (kind_for c.sort) c.pattern))
  where
    go : (t : Bool) (o : Result (List Judged) Cause) → Filled o → SomeIn (require t OptionName (and_then o (λ xs. Ok (record { sort = c.sort; alternatives = xs }))))
    go false o h = tt
    go true (Err d) h = tt
    go true (Ok xs) h = h

some_of : (j : Judge) (t : List ℕ) → SomeIn (condition_of j t)
unfolding condition_of condition_behind
some_of j t = pick_of SomeIn (head_is 33 t) (some_in j true (has 61 (drop 1 t)) (prefixed (drop 1 t))) (some_in j false (has 61 t) (prefixed t))

pub condition_some : (j : Judge) (t : List ℕ) (c : Condition) → condition_of j t ≡ Ok c → null c.alternatives ≡ false
condition_some j t c e = rw e at (some_of j t)
