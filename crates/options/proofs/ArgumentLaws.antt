-- Which arguments fail a pattern, kept by value. Assumes nothing.
use Rattle.std.specs.List.{list_all, list_any}
use mathlib.Core.Path.{◌≡◌, refl, sym, ap, ◌∙◌}
use mathlib.Core.Bool.{Bool, true, false, not, ◌&&◌, ◌||◌}
use mathlib.Core.List.{List, [], ◌∷◌, ◌++◌, append-nil, append_assoc}
use Prim.Native.Nat.{ℕ, zero, suc, ◌+◌, ◌≤◌, ◌<◌}
use native.Mathlib.Omega.{arith}
use native.Mathlib.Numerals.{add-one}
use borrow.Author.Tests.{le-leb}
use lib.ListN.{length, take, drop, get_or, set, replicate, drop_of_length-le, take-append-drop}
use lib.Seq.{take_all, take-suc-set, drop-set-lt}
use Rattle.text.proofs.Laws.{next_of, both_yes, not_both}
use Rattle.text.proofs.Lists.{all_append}
use Rattle.pattern.specs.declared.Syntax.TheVariants.{Plain}
use Rattle.pattern.specs.Whole.{expansions_of}
use Rattle.matching.specs.Whole.{field_expansions}
use Rattle.text.specs.Class.{Range}
use Rattle.text.specs.Limits.{field_limit}
use Rattle.options.specs.Arguments.{ArgumentPattern, passes, arguments_from, arguments_pass, in_force}
use Rattle.options.specs.Read.{last_position}
use Rattle.options.specs.Contract.{span_in, setting_in, pattern_at, failures_from, failures, failures_with, failures_after}
use Rattle.options.specs.declared.Id.TheVariants.{Uid, Euid, Gid, Egid}
use Rattle.options.specs.declared.setting.OptionSetting.{OptionSetting}
use Rattle.options.specs.declared.setting.OptionSetting.TheVariants.{SetId, SetAuth, SetTimeout, SetNargs, SetArgument, SetShell}

-- one store of a loop over a list of failures, seen from before and from behind
module _ (l : List Bool) (i : ℕ) (b : Bool) (h : i < length l) where
  stored_front : take (i + 1) (set l i b) ≡ take i l ++ (b ∷ [])
  stored_front = rw (add-one, take-suc-set l i b)

  stored_back : drop (i + 1) (set l i b) ≡ drop (i + 1) l
  stored_back = drop-set-lt (i + 1) l i b (omega arith)

without : (i : ℕ) (p : ArgumentPattern) (fs : List Bool) → failures_with i p [] fs ≡ fs
unfolding failures_with
without i p [] = refl
without i p (f ∷ fs) = refl

-- the loop that marks the failures of one pattern, at position i with these arguments left
module _ (p : ArgumentPattern) (at : List Bool) (i : ℕ) where
  -- what the loop has done, and what is left to do
  abbrev pub marked_from : List (List ℕ) → List Bool
  marked_from xs = take i at ++ failures_with (i + 1) p xs (drop i at)

  pub marked_none : marked_from [] ≡ at
  marked_none = rw (without (i + 1) p (drop i at)) (take-append-drop i at)

  pub marked_full : (xs : List (List ℕ)) → length at ≤ i → marked_from xs ≡ at
  unfolding failures_with
  marked_full xs h = rw (drop_of_length-le at h, take_all i at h) (append-nil at)

  pub marked_on : (a : List ℕ) (xs : List (List ℕ)) → i < length at → {b : Bool} → b ≡ get_or at i false || not (passes (i + 1) a p)
      → take (i + 1) (set at i b) ++ failures_with (i + 1 + 1) p xs (drop (i + 1) (set at i b)) ≡ marked_from (a ∷ xs)
  unfolding failures_with
  marked_on a xs k {b} q =
      rw (stored_front at i b k, stored_back at i b k, next_of false at i k, ← q)
      (append_assoc (take i at) (b ∷ []) (failures_with (i + 1 + 1) p xs (drop (i + 1) at)))

-- what the failures mean

-- no argument, no failure
empty_from : (n i : ℕ) (ps : List ArgumentPattern) → failures_from n i ps [] ≡ replicate n false
unfolding failures_from
empty_from zero i ps = refl
empty_from (suc n) i ps = ap (λ l. false ∷ l) (empty_from n (i + 1) ps)

none_from : (n i : ℕ) (xs : List (List ℕ)) → failures_from n i [] xs ≡ replicate n false
unfolding failures_from
none_from zero i xs = refl
none_from (suc n) i [] = empty_from (suc n) i []
none_from (suc n) i (a ∷ xs) = ap (λ l. false ∷ l) (none_from n (i + 1) xs)

-- no pattern, no failure
pub failures_none : (xs : List (List ℕ)) → replicate last_position false ≡ failures [] xs
unfolding failures
failures_none xs = sym (none_from last_position 1 xs)

fail_more : (f : ArgumentPattern → Bool) (ps qs : List ArgumentPattern) → not (list_all f (ps ++ qs)) ≡ not (list_all f ps) || not (list_all f qs)
fail_more f ps qs = ap not (all_append f ps qs) ∙ not_both (list_all f ps) (list_all f qs)

more_from : (n i : ℕ) (ps : List ArgumentPattern) (p : ArgumentPattern) (xs : List (List ℕ)) → failures_with i p xs (failures_from n i ps xs) ≡ failures_from n i (ps ++ (p ∷ [])) xs
unfolding failures_from failures_with
more_from zero i ps p [] = refl
more_from zero i ps p (a ∷ xs) = refl
more_from (suc n) i ps p [] = ap (λ l. false ∷ l) (empty_from n (i + 1) ps ∙ sym (empty_from n (i + 1) (ps ++ (p ∷ []))))
more_from (suc n) i ps p (a ∷ xs) =
    let h : not (list_all (passes i a) (ps ++ (p ∷ []))) ≡ not (list_all (passes i a) ps) || not (passes i a p) = fail_more (passes i a) ps (p ∷ []) ∙ rw (both_yes (passes i a p)) in
    rw (h, more_from n (i + 1) ps p xs)

-- a pattern that is no longer than a field
within_field : (r : Range) (v : List ℕ) → length v ≤ field_limit → pattern_at r v ≡ record { positions = r; expansions = expansions_of Plain v }
unfolding field_expansions
within_field r v h = rw (le-leb (length v) field_limit h)

-- one more setting of a line, by a value that is no longer than a field
pub failures_more : (ps : List ArgumentPattern) (v : List ℕ) (s : OptionSetting) (xs : List (List ℕ)) → length v ≤ field_limit
    → failures_after v s xs (failures ps xs) ≡ failures (ps ++ (setting_in v s).arguments) xs
unfolding failures
failures_more ps v (SetId Uid) xs h = rw (append-nil ps)
failures_more ps v (SetId Euid) xs h = rw (append-nil ps)
failures_more ps v (SetId Gid) xs h = rw (append-nil ps)
failures_more ps v (SetId Egid) xs h = rw (append-nil ps)
failures_more ps v (SetAuth b) xs h = rw (append-nil ps)
failures_more ps v (SetTimeout m) xs h = rw (append-nil ps)
failures_more ps v (SetNargs s) xs h = rw (append-nil ps)
failures_more ps v (SetArgument s) xs h = rw (within_field (span_in s) v h) (more_from last_position 1 ps (record { positions = span_in s; expansions = expansions_of Plain v }) xs)
failures_more ps v SetShell xs h = rw (append-nil ps)

some_from : (n i : ℕ) (ps : List ArgumentPattern) (xs : List (List ℕ)) → length xs ≤ n → arguments_from i ps xs ≡ not (list_any (λ f. f) (failures_from n i ps xs))
unfolding failures_from arguments_from
some_from zero i ps [] h = refl
some_from zero i ps (a ∷ xs) h = absurd (omega arith)
some_from (suc n) i ps [] h = some_from n (i + 1) ps [] (omega arith)
some_from (suc n) i ps (a ∷ xs) h = rw (some_from n (i + 1) ps xs (omega arith)) (go (list_all (passes i a) ps) (list_any (λ f. f) (failures_from n (i + 1) ps xs)))
  where
    go : (a b : Bool) → a && not b ≡ not (not a || b)
    go true b = refl
    go false b = refl

-- all arguments pass exactly if none fails
pub arguments_pass_law : (ps : List ArgumentPattern) (xs : List (List ℕ)) → length xs ≤ last_position → arguments_pass ps xs ≡ not (list_any (λ f. f) (failures ps xs))
unfolding failures arguments_pass
arguments_pass_law ps xs h = some_from last_position 1 ps xs h

-- so the failures of the patterns in force globally with the entry's own say whether the arguments pass
pub arguments_in_force : (global own : List ArgumentPattern) (xs : List (List ℕ)) → length xs ≤ last_position
    → arguments_pass (in_force global own) xs ≡ not (list_any (λ f. f) (failures (global ++ own) xs))
unfolding in_force
arguments_in_force global own xs h = arguments_pass_law (global ++ own) xs h
