-- The laws of whole patterns, for the functions of this layer and for those above it. Assumes nothing.
use Rattle.std.specs.Prelude.{Err, None, Ok, Option, Result, Some}
use mathlib.Core.Path.{◌≡◌, refl, sym, ap, ◌∙◌}
use mathlib.Core.Bool.{Bool, true, false, ◌&&◌}
use mathlib.Core.List.{List, []}
use Prim.Native.Nat.{ℕ, ◌+◌, ◌≤◌, ◌<◌, min}
use native.Mathlib.Omega.{arith}
use native.Mathlib.Decide.{dec_le, dec_lt}
use borrow.Author.Tests.{lt-leb, leb-true}
use lib.Dec.{leb}
use lib.ListN.{length, drop, get_or, get_or-eq_default}
use Rattle.text.specs.Contract.{Wrote}
use Rattle.text.proofs.Buffers.{up_full}
use Rattle.text.proofs.Laws.{both_true, clash}
use Rattle.fault.specs.declared.Cause.{Cause}
use Rattle.fault.specs.declared.Cause.TheVariants.{Pattern as BadPattern, PatternSize}
use Rattle.pattern.specs.declared.Syntax.{Syntax}
use Rattle.pattern.specs.declared.Pattern.{Pattern}
use Rattle.pattern.specs.Tree.{Tree, commas_part, depth, number, expansions, fits, TreeRead, parsed, malformed, pattern_of, list_of, tree_of, expanded}
use Rattle.pattern.specs.Whole.{or_none, expansions_of}
use Rattle.pattern.specs.Contract.{size_of, shape_in, shape_of, expansion_at, chosen, HasNumber, HasNth}
use Rattle.pattern.proofs.Readings.{number_some}
use Rattle.pattern.proofs.Expansions.{counts, nth_is}
use Rattle.pattern.proofs.Alone.{alone}
use Rattle.pattern.proofs.Lengths.{list_room}

-- ---- what is read of a pattern, by its tree
pub fits_few : (t : Tree) → fits t ≡ true → number t ≤ 64
unfolding fits
fits_few t e = leb-true (number t) 64 (both_true (leb (depth t) 4) (leb (number t) 64) e).1

module _ (syntax : Syntax) (p : List ℕ) where
  pub expanded_none : tree_of syntax p ≡ None → expanded syntax p ≡ Err BadPattern
  unfolding expanded
  expanded_none e = rw e

  module _ (t : Tree) (e : tree_of syntax p ≡ Some t) where
    pub expanded_large : fits t ≡ false → expanded syntax p ≡ Err PatternSize
    unfolding expanded
    expanded_large f = rw (e, f)

    pub expanded_good : fits t ≡ true → expanded syntax p ≡ Ok (expansions t)
    unfolding expanded
    expanded_good f = rw (e, f)

-- a pattern without a fault has a tree that passes no limit, whose expansions are all
pub record Good (syntax : Syntax) (p : List ℕ) (es : List (List ℕ)) : Type 0 where
  pub tree : Tree
  pub rest : List ℕ
  pub is_list : list_of syntax false p ≡ parsed tree rest
  pub fit : fits tree ≡ true
  pub all : es ≡ expansions tree

pub good : (syntax : Syntax) (p : List ℕ) (es : List (List ℕ)) → expanded syntax p ≡ Ok es → Good syntax p es
unfolding tree_of
good syntax p es e = read (list_of syntax false p) refl
  where
    by : (t : Tree) (r : List ℕ) → list_of syntax false p ≡ parsed t r → (b : Bool) → fits t ≡ b → Good syntax p es
    by t r q true f = let z : tree_of syntax p ≡ Some t = rw q in let y = expanded_good syntax p t z f in record { tree = t; rest = r; is_list = q; fit = f; all = cc }
    by t r q false f = let z : tree_of syntax p ≡ Some t = rw q in let y = expanded_large syntax p t z f in clash cc

    read : (o : TreeRead) → list_of syntax false p ≡ o → Good syntax p es
    read (parsed t r) q = by t r q (fits t) refl
    read malformed q = let z : tree_of syntax p ≡ None = rw q in let y = expanded_none syntax p z in clash cc

module _ (syntax : Syntax) (p : List ℕ) (es : List (List ℕ)) (e : expanded syntax p ≡ Ok es) where
  pub expansions_are : expansions_of syntax p ≡ es
  unfolding expansions_of
  expansions_are = rw e

  -- the k-th expansion is the list's k-th
  pub expansion_is : (k : ℕ) → expansion_at syntax p k ≡ get_or es k []
  unfolding expansion_at
  expansion_is k = rw expansions_are

  -- there is at least one, and there are at most 64
  pub expanded_some : (0 < length es) × (length es ≤ 64)
  expanded_some =
      let g = good syntax p es e in
      let z : length es ≡ number g.tree = ap length g.all ∙ sym (counts g.tree) in
      (omega (arith, number_some g.tree), omega (arith, fits_few g.tree g.fit))

-- ---- the number told decides whether there are at most 64
few_told : (n : ℕ) → leb (min n 65) 64 ≡ leb n 64
few_told n = elim (dec_le n 64) [ yes h ↦ small h | no h ↦ large (omega arith) ]
  where
    small : n ≤ 64 → leb (min n 65) 64 ≡ leb n 64
    small h = let e : min n 65 ≡ n = omega arith in rw e

    large : 64 < n → leb (min n 65) 64 ≡ leb n 64
    large h = let e : min n 65 ≡ 65 = omega arith in rw (e, lt-leb _ _ h)

-- what `Pattern::fits` says of the size told is `fits` of the tree
pub fits_told : (t : Tree) → leb (size_of t).depth 4 && leb (size_of t).number 64 ≡ fits t
unfolding fits size_of
fits_told t = ap (◌&&◌ (leb (depth t) 4)) (few_told (number t))

-- ---- what `read_pattern` tells of the expansions
module _ (syntax : Syntax) (p : List ℕ) where
  none_of : (o : Option Tree) → shape_in o ≡ None → o ≡ None
  none_of None e = refl
  none_of (Some t) e = cc

  some_of : (o : Option Tree) (size : Pattern) → shape_in o ≡ Some size → (t : Tree) × (o ≡ Some t) × (size ≡ size_of t)
  some_of None size e = clash cc
  some_of (Some t) size e = (t, refl, cc)

  pub shape_malformed : shape_of syntax p ≡ None → expanded syntax p ≡ Err BadPattern
  unfolding shape_of
  shape_malformed e = expanded_none syntax p (none_of (tree_of syntax p) e)

  module _ (size : Pattern) (e : shape_of syntax p ≡ Some size) where
    pub shape_large : leb size.depth 4 && leb size.number 64 ≡ false → expanded syntax p ≡ Err PatternSize
    unfolding shape_of
    shape_large f =
        let w = some_of (tree_of syntax p) size e in
        let g : fits w.0 ≡ false = sym (fits_told w.0) ∙ (rw w.2 at f) in
        expanded_large syntax p w.0 w.1 g

    pub shape_good : leb size.depth 4 && leb size.number 64 ≡ true → (es : List (List ℕ)) × (expanded syntax p ≡ Ok es) × (size.number ≡ length es)
    unfolding shape_of size_of
    shape_good f =
        let w = some_of (tree_of syntax p) size e in
        let g : fits w.0 ≡ true = sym (fits_told w.0) ∙ (rw w.2 at f) in
        let z : min (number w.0) 65 ≡ length (expansions w.0) = omega (arith, fits_few w.0 g, counts w.0) in
        (expansions w.0, expanded_good syntax p w.0 w.1 g, ap (λ (x : Pattern). x.number) w.2 ∙ z)

-- ---- an expansion is never longer than its pattern
module _ (syntax : Syntax) (p : List ℕ) where
  one_short : (t : Tree) (r : List ℕ) (k : ℕ) → list_of syntax false p ≡ parsed t r → length (get_or (expansions t) k []) ≤ length p
  one_short t r k e = elim (dec_lt k (number t)) [ yes h ↦ rw (← (nth_is t k h)) (list_room syntax false p t r k e) | no h ↦ past (omega (arith, counts t)) ]
    where
      past : length (expansions t) ≤ k → length (get_or (expansions t) k []) ≤ length p
      past g = rw (get_or-eq_default (expansions t) [] g) (omega arith)

  pub expansion_short : (k : ℕ) → length (expansion_at syntax p k) ≤ length p
  unfolding expansion_at expansions_of
  expansion_short k = go (expanded syntax p) refl
    where
      go : (r : Result (List (List ℕ)) Cause) → expanded syntax p ≡ r → length (get_or (or_none r) k []) ≤ length p
      go (Err c) q = omega arith
      go (Ok es) q = let g = good syntax p es q in rw g.all (one_short g.tree g.rest k g.is_list)

  -- so it fits where its pattern does
  pub never_full : (k : ℕ) {old new : List ℕ} {r : Option ℕ} → Wrote old new 0 (expansion_at syntax p k) r → length p ≤ length old → r ≡ None → ⊥
  never_full k {old} {new} {r} w h e =
      let f = up_full (length old) (0 + length (expansion_at syntax p k)) (sym w.answer ∙ e) in
      omega (arith, f, expansion_short k)

-- ---- a pattern that has a k-th expansion
pub record Kth (syntax : Syntax) (p : List ℕ) (k : ℕ) : Type 0 where
  pub holds : HasNth (list_of syntax false (drop 0 p)) k
  pub is : expansion_at syntax p k ≡ chosen k (list_of syntax false (drop 0 p))
  pub numbers : HasNumber (list_of syntax false (drop 0 p)) (length (expansions_of syntax p))
  pub few : length (expansions_of syntax p) ≤ 64

pub kth : (syntax : Syntax) (p : List ℕ) (number k : ℕ) → number ≡ length (expansions_of syntax p) → k < number → Kth syntax p k
unfolding expansions_of
kth syntax p n k e h = go (expanded syntax p) refl
  where
    go : (r : Result (List (List ℕ)) Cause) → expanded syntax p ≡ r → Kth syntax p k
    go (Err c) q = let z : length (expansions_of syntax p) ≡ 0 = rw q in absurd (omega arith)
    go (Ok es) q =
        let g = good syntax p es q in
        let a : expansions_of syntax p ≡ expansions g.tree = expansions_are syntax p es q ∙ g.all in
        let z : length (expansions_of syntax p) ≡ number g.tree = rw a (sym (counts g.tree)) in
        let l : k < number g.tree = omega arith in
        let f = fits_few g.tree g.fit in
        record { holds = rw g.is_list (l, f); is = expansion_is syntax p es q k ∙ ap (λ (x : List (List ℕ)). get_or x k []) g.all ∙ rw g.is_list (sym (nth_is g.tree k l)); numbers = rw g.is_list z; few = omega arith }

-- where no comma parts, of the only alternative
pub record KthAlone (syntax : Syntax) (p : List ℕ) (number k : ℕ) : Type 0 where
  pub numbers : HasNumber (pattern_of syntax false (drop 0 p)) number
  pub few : number ≤ 64
  pub is : expansion_at syntax p k ≡ chosen k (pattern_of syntax false (drop 0 p))

pub kth_alone : (syntax : Syntax) (p : List ℕ) (number k : ℕ) → commas_part syntax ≡ false → number ≡ length (expansions_of syntax p) → k < number → KthAlone syntax p number k
kth_alone syntax p n k c e h =
    let w = kth syntax p n k e h in
    record { numbers = rw (← (alone syntax c p), e) w.numbers; few = omega (arith, w.few); is = rw (← (alone syntax c p)) w.is }
