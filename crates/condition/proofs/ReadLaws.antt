-- What a field's text comes to, step by step: its `!`, its prefix and the `=` rule, its pattern.
use Rattle.std.specs.Prelude.{Err, None, Ok, Result, Some}
use Rattle.std.specs.List.{list_any}
use mathlib.Core.Logic.{◌⊎◌, inl, inr}
use mathlib.Core.Path.{◌≡◌, refl}
use mathlib.Core.Bool.{Bool, true, false, not, cond, ◌||◌}
use mathlib.Core.List.{List}
use Prim.Native.Nat.{ℕ, ◌≤◌, ◌<◌}
use borrow.Author.Tests.{le-leb, lt-leb}
use lib.Dec.{eqb, leb}
use lib.ListN.{length, drop}
use Rattle.text.specs.Lists.{has}
use Rattle.text.specs.Slice.{head_is}
use Rattle.text.proofs.Laws.{clash, either_yes}
use Rattle.fault.specs.Fault.{and_then, read_all, require}
use Rattle.fault.specs.declared.Cause.{Cause}
use Rattle.fault.specs.declared.Cause.TheVariants.{OptionName, FieldLength}
use Rattle.pattern.specs.declared.Syntax.{Syntax}
use Rattle.pattern.specs.Tree.{expanded}
use Rattle.condition.specs.declared.rightmost.Rightmost.{Rightmost}
use Rattle.condition.specs.declared.prefix.Prefix.{Prefix}
use Rattle.condition.specs.declared.condition.ConditionRead.{ConditionRead}
use Rattle.condition.specs.Rightmost.{Judged}
use Rattle.condition.specs.Condition.{Sort, Judge, kind_for, alternative_read, alternatives_of, prefixed, condition_behind, condition_of}
use Rattle.condition.specs.Contract.{sort_in, prefixed_in, added_all, added_by, kept_for, read_for, condition_read}

-- ---- the pattern: well formed, depth and number, then its expansions
module _ (judge : Judge) (negated : Bool) (s : Sort) (p : List ℕ) (r : Rightmost) (syntax : Syntax) (k : syntax ≡ kind_for s) where
  pub pattern_fault : {c : Cause} → expanded syntax p ≡ Err c → Err c ≡ added_by r (alternatives_of judge negated s p)
  unfolding added_by alternatives_of
  pattern_fault e = rw (← k, e)

  pub pattern_read : {es : List (List ℕ)} → expanded syntax p ≡ Ok es → added_by r (read_all (alternative_read judge negated s) es) ≡ added_by r (alternatives_of judge negated s p)
  unfolding alternatives_of
  pattern_read e = rw (← k, e)

-- ---- behind the `!`
-- a prefix, or no `=`
abbrev pub Behind : List ℕ → Prefix → Type 0
Behind t p = (p.written ≡ true) ⊎ (list_any (λ b. eqb b 61) t ≡ false)

module _ (judge : Judge) (negated : Bool) (t : List ℕ) (us ts : Rightmost) (p : Prefix) (e : prefixed_in t p ≡ prefixed t) where
  pub behind_bad : p.written ≡ false → list_any (λ b. eqb b 61) t ≡ true → Err OptionName ≡ condition_read us ts (condition_behind judge negated t)
  unfolding condition_read condition_behind has
  behind_bad w f = rw (← e, w, f)

  module _ (f : Behind t p) where
    written_or : p.written || not (has 61 t) ≡ true
    unfolding has
    written_or = elim f [ inl w ↦ rw w | inr n ↦ rw n (either_yes p.written) ]

    behind_with : {r : Result ConditionRead Cause} → r ≡ condition_read us ts (and_then (alternatives_of judge negated (sort_in p.asks) (drop p.at t)) (λ xs. Ok (record { sort = sort_in p.asks; alternatives = xs }))) → r ≡ condition_read us ts (condition_behind judge negated t)
    unfolding condition_behind
    behind_with h = rw (← e, written_or) h

    pub behind_fault : (k : Rightmost) {c : Cause} → Err c ≡ added_by k (alternatives_of judge negated (sort_in p.asks) (drop p.at t)) → Err c ≡ condition_read us ts (condition_behind judge negated t)
    unfolding added_by condition_read
    behind_fault k {c} m = behind_with (go (alternatives_of judge negated (sort_in p.asks) (drop p.at t)) m)
      where
        go : (o : Result (List Judged) Cause) → Err c ≡ added_by k o → Err c ≡ condition_read us ts (and_then o (λ xs. Ok (record { sort = sort_in p.asks; alternatives = xs })))
        go (Err d) m = cc
        go (Ok xs) m = clash cc

    pub behind_read : (k r : Rightmost) → k ≡ kept_for (sort_in p.asks) us ts → Ok r ≡ added_by k (alternatives_of judge negated (sort_in p.asks) (drop p.at t)) → Ok (read_for (sort_in p.asks) r) ≡ condition_read us ts (condition_behind judge negated t)
    unfolding added_by condition_read
    behind_read k r n m = behind_with (go (alternatives_of judge negated (sort_in p.asks) (drop p.at t)) m)
      where
        go : (o : Result (List Judged) Cause) → Ok r ≡ added_by k o → Ok (read_for (sort_in p.asks) r) ≡ condition_read us ts (and_then o (λ xs. Ok (record { sort = sort_in p.asks; alternatives = xs })))
        go (Err d) m = clash cc
        go (Ok xs) m = let q : r ≡ added_all k xs = cc in rw (q, n)

-- ---- the whole text
module _ (judge : Judge) (t : List ℕ) (us ts : Rightmost) where
  abbrev Reads : Result ConditionRead Cause → Type 0
  Reads r = r ≡ condition_read us ts (require (leb (length t) 1024) FieldLength (condition_of judge t))

  pub read_long : 1024 < length t → Reads (Err FieldLength)
  unfolding condition_read
  read_long h = rw (lt-leb _ _ h)

  module _ (h : length t ≤ 1024) where
    pub read_marked : (r : ℕ) → r ≡ cond (head_is 33 t) 1 0 → Reads (condition_read us ts (condition_behind judge (eqb r 1) (drop r t)))
    unfolding condition_of
    read_marked r e = rw (le-leb _ _ h, e) (go (head_is 33 t))
      where
        go : (b : Bool) → condition_read us ts (condition_behind judge (eqb (cond b 1 0) 1) (drop (cond b 1 0) t)) ≡ condition_read us ts (cond b (condition_behind judge true (drop 1 t)) (condition_behind judge false t))
        go true = refl
        go false = refl
