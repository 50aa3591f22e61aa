-- The laws of comparing and searching.
use Rattle.std.specs.Option.{option_map}
use Rattle.std.specs.Prelude.{None, Option, Some}
use Rattle.std.specs.Str.{bytes_eq}
use Rattle.std.proofs.lemmas.Slice.Eq.{starts_is}
use Rattle.std.proofs.lemmas.Bool.Decides.{Decides-eqb}
use mathlib.Core.Path.{◌≡◌, refl, sym, ap, ◌∙◌}
use mathlib.Core.Bool.{Bool, true, false, cond, ◌&&◌}
use mathlib.Core.List.{List, [], ◌∷◌, ◌++◌}
use Prim.Native.Nat.{ℕ, suc, ◌+◌, ◌-◌, ◌≤◌, ◌<◌}
use native.Mathlib.Nat.{add-zero}
use native.Mathlib.Omega.{arith}
use borrow.Author.Tests.{eq-eqb, ne_eqb, eqb-true}
use lib.Dec.{eqb}
use lib.ListN.{length, length-append, take, drop, get_or, length-drop}
use lib.Seq.{drop-drop}
use Rattle.text.specs.Lists.{has}
use Rattle.text.proofs.Laws.{next, part_rest, both_true, clash}
use Rattle.text.specs.Parts.{Parts, with_first, part_at_pair}
use Rattle.text.specs.Slice.{starts_with, head_is, find_pair}
use Rattle.text.specs.Contract.{lead, find_byte}
use Rattle.text.proofs.Leads.{found_lead, missing_lead, lead_at, lead_before, lead_none, reach_stop}

pub same_true : (a b : List ℕ) → bytes_eq a b ≡ true → a ≡ b
same_true [] [] e = refl
same_true [] (y ∷ b) e = cc
same_true (x ∷ a) [] e = cc
same_true (x ∷ a) (y ∷ b) e =
    let t = both_true (eqb x y) (bytes_eq a b) e in
    let p = eqb-true x y t.0 in
    let q = same_true a b t.1 in cc

abbrev pub pair_at : ℕ → ℕ → List ℕ → ℕ → Bool
pair_at c d s i = eqb (get_or s i 0) c && eqb (get_or s (i + 1) 0) d

pub head_is_law : (d : ℕ) (s : List ℕ) → head_is d s ≡ true → (0 < length s) × (get_or s 0 0 ≡ d)
unfolding head_is
head_is_law d [] e = clash cc
head_is_law d (y ∷ s) e = (omega arith, eqb-true y d e)

pair_next : (c d : ℕ) (s : List ℕ) (i : ℕ) → i + 1 < length s → find_pair c d i (drop i s) ≡ cond (pair_at c d s i) (Some i) (find_pair c d (i + 1) (drop (i + 1) s))
unfolding find_pair head_is
pair_next c d s i h = let k : i < length s = omega arith in rw (next s i k, next s (i + 1) h)

pair_hit : (c d : ℕ) (s : List ℕ) (i : ℕ) → i + 1 < length s → pair_at c d s i ≡ true → Some i ≡ find_pair c d i (drop i s)
pair_hit c d s i h t = rw (pair_next c d s i h, t)

pair_on : (c d : ℕ) (s : List ℕ) (i : ℕ) → i + 1 < length s → pair_at c d s i ≡ false → find_pair c d (i + 1) (drop (i + 1) s) ≡ find_pair c d i (drop i s)
pair_on c d s i h t = rw (pair_next c d s i h, t)

few : (c d : ℕ) (at : ℕ) (s : List ℕ) → length s ≤ 1 → None ≡ find_pair c d at s
unfolding find_pair head_is
few c d at [] h = refl
few c d at (x ∷ []) h = elim (eqb x c) as (λ (t : Bool). None ≡ cond (t && false) (Some at) None) [ true ↦ refl | false ↦ refl ]
few c d at (x ∷ (y ∷ s)) h = absurd (omega arith)

pub pair_end : (c d : ℕ) (s : List ℕ) (i : ℕ) → length s ≤ i + 1 → None ≡ find_pair c d i (drop i s)
pair_end c d s i h = few c d i (drop i s) (rw length-drop (omega arith))

-- no pair begins before the first c
pair_lead : (c d at : ℕ) (s : List ℕ) → find_pair c d at s ≡ find_pair c d (at + lead c s) (drop (lead c s) s)
unfolding find_pair lead
pair_lead c d at [] = refl
pair_lead c d at (x ∷ s) = go (eqb x c) refl (pair_lead c d (at + 1) s)
  where
    go : (t : Bool) → eqb x c ≡ t → find_pair c d (at + 1) s ≡ find_pair c d (at + 1 + lead c s) (drop (lead c s) s) → cond (t && head_is d s) (Some at) (find_pair c d (at + 1) s) ≡ find_pair c d (at + cond t 0 (suc (lead c s))) (drop (cond t 0 (suc (lead c s))) (x ∷ s))
    go true e k = rw (e, add-zero)
    go false e k = k ∙ ap (λ (k : ℕ). find_pair c d k (drop (lead c s) s)) (omega arith)

-- a turn of a loop that looks for the next c first
module _ (c d : ℕ) (s : List ℕ) (i at : ℕ) (e : at ≡ i + lead c (drop i s)) where
  pair_there : find_pair c d i (drop i s) ≡ find_pair c d at (drop at s)
  pair_there = pair_lead c d i (drop i s) ∙ rw (e, drop-drop)

  pub pair_none : length s ≤ at + 1 → None ≡ find_pair c d i (drop i s)
  pair_none h = pair_end c d s at h ∙ sym pair_there

  pub pair_here : at + 1 < length s → get_or s (at + 1) 0 ≡ d → Some at ≡ find_pair c d i (drop i s)
  pair_here h t = pair_hit c d s at h (simp (eq-eqb _ _ (reach_stop c s i at e (omega arith)), eq-eqb _ _ t)) ∙ sym pair_there

  pub pair_later : at + 1 < length s → (get_or s (at + 1) 0 ≡ d → ⊥) → find_pair c d (at + 1) (drop (at + 1) s) ≡ find_pair c d i (drop i s)
  pair_later h t = pair_on c d s at h (simp (eq-eqb _ _ (reach_stop c s i at e (omega arith)), ne_eqb _ _ t)) ∙ sym pair_there

-- where a byte was found: its place, and that it does not stand before
pub byte_at : (c : ℕ) (s : List ℕ) (i : ℕ) → find_byte c 0 s ≡ Some i → (i < length s) × (get_or s i 0 ≡ c) × (has c (take i s) ≡ false)
byte_at c s i e =
    let t = found_lead c s i e in
    let h : lead c s < length s = omega (arith, t.0, t.1) in
    rw t.0 (h, lead_at c s h, lead_before c s h)

pub byte_none : (c at : ℕ) (s : List ℕ) → find_byte c at s ≡ None → has c s ≡ false
byte_none c at s e = lead_none c s (missing_lead c at s e)

-- where a pair was found
pair_found : (c d at : ℕ) (s : List ℕ) (i : ℕ) → find_pair c d at s ≡ Some i → (at ≤ i) × (i - at + 1 < length s) × (get_or s (i - at) 0 ≡ c) × (get_or s (i - at + 1) 0 ≡ d)
unfolding find_pair
pair_found c d at [] i e = clash cc
pair_found c d at (x ∷ s) i e = go (eqb x c && head_is d s) refl (pair_found c d (at + 1) s i) e
  where
    go : (t : Bool) → eqb x c && head_is d s ≡ t
        → (find_pair c d (at + 1) s ≡ Some i → (at + 1 ≤ i) × (i - (at + 1) + 1 < length s) × (get_or s (i - (at + 1)) 0 ≡ c) × (get_or s (i - (at + 1) + 1) 0 ≡ d))
        → cond t (Some at) (find_pair c d (at + 1) s) ≡ Some i
        → (at ≤ i) × (i - at + 1 < suc (length s)) × (get_or (x ∷ s) (i - at) 0 ≡ c) × (get_or (x ∷ s) (i - at + 1) 0 ≡ d)
    go true t f e =
        let q : at ≡ i = cc in
        let z : i - at ≡ 0 = omega arith in
        let w = both_true (eqb x c) (head_is d s) t in
        let y = head_is_law d s w.1 in
        rw z (omega arith, omega (arith, y.0), eqb-true x c w.0, y.1)
    go false t f e =
        let r = f e in
        let z : i - at ≡ suc (i - (at + 1)) = omega (arith, r.0) in
        let y : i - at + 1 ≡ suc (i - (at + 1) + 1) = omega (arith, r.0) in
        rw (y, z) (omega (arith, r.0), omega (arith, r.1), r.2, r.3)

pub pair_at_law : (c d : ℕ) (s : List ℕ) (i : ℕ) → find_pair c d 0 s ≡ Some i → (i + 1 < length s) × (get_or s i 0 ≡ c) × (get_or s (i + 1) 0 ≡ d)
pair_at_law c d s i e = let z : i - 0 ≡ i = omega arith in let r = pair_found c d 0 s i e in (rw z at r.1, rw z at r.2, rw z at r.3)

-- the two parts, by the place of the pair
abbrev pair_parts : ℕ → List ℕ → Option ℕ → Option Parts
pair_parts at s (Some i) = Some (record { front = take (i - at) s; back = drop (i - at + 2) s })
pair_parts at s None = None

pair_parts_law : (c d at : ℕ) (s : List ℕ) → part_at_pair c d s ≡ pair_parts at s (find_pair c d at s)
unfolding find_pair part_at_pair
pair_parts_law c d at [] = refl
pair_parts_law c d at (x ∷ s) = go (eqb x c && head_is d s) (pair_parts_law c d (at + 1) s)
  where
    on : (q : Option ℕ) → find_pair c d (at + 1) s ≡ q → option_map (with_first x) (pair_parts (at + 1) s q) ≡ pair_parts at (x ∷ s) q
    on None e = refl
    on (Some i) e =
        let h = (pair_found c d (at + 1) s i e).0 in
        let y : i - at + 2 ≡ suc (i - (at + 1) + 2) = omega (arith, h) in
        let z : i - at ≡ suc (i - (at + 1)) = omega (arith, h) in
        rw (y, z)

    go : (t : Bool) → part_at_pair c d s ≡ pair_parts (at + 1) s (find_pair c d (at + 1) s)
        → cond t (Some (record { front = []; back = drop 1 s })) (option_map (with_first x) (part_at_pair c d s)) ≡ pair_parts at (x ∷ s) (cond t (Some at) (find_pair c d (at + 1) s))
    go true p = let z : at - at ≡ 0 = omega arith in rw z
    go false p = ap (option_map (with_first x)) p ∙ on (find_pair c d (at + 1) s) refl

-- a text parted at its first pair, as the code has its two parts
module _ (c d : ℕ) (s : List ℕ) (r : Option ℕ) (f : r ≡ find_pair c d 0 s) where
  pub pair_within : {i : ℕ} → r ≡ Some i → i + 2 ≤ length s
  pair_within {i} e = let t = pair_at_law c d s i (sym f ∙ e) in omega (arith, t.0)

  pub pair_parted : {i : ℕ} → r ≡ Some i → part_at_pair c d s ≡ Some (record { front = take (i - 0) (drop 0 s); back = take (length s - (i + 2)) (drop (i + 2) s) })
  pair_parted {i} e =
      let z : i - 0 + 2 ≡ i + 2 = omega arith in
      pair_parts_law c d 0 s ∙ rw (sym f ∙ e, part_rest (i + 2) s, z)

  pub pair_missing : r ≡ None → part_at_pair c d s ≡ None
  pair_missing e = pair_parts_law c d 0 s ∙ rw (sym f ∙ e)

pub starts_true : (p s : List ℕ) → starts_with p s ≡ true → p ++ drop (length p) s ≡ s
starts_true p s e = sym ((starts_is Decides-eqb s p _ refl).0 e)

pub starts_length : (p s : List ℕ) → starts_with p s ≡ true → length p ≤ length s
starts_length p s e = omega (arith, simp length-append at (ap length (starts_true p s e)))
