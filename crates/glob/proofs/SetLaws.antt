-- The laws of sets, at a place of a list. Assumes nothing.
use Rattle.std.specs.Prelude.{None, Option, Some}
use Rattle.std.specs.List.{list_all, slice_get}
use Rattle.std.proofs.lemmas.Option.{same_Some, none-some}
use mathlib.Core.Path.{◌≡◌, refl, sym, ap, ◌∙◌}
use mathlib.Core.Bool.{Bool, true, false, not, cond, beq}
use mathlib.Core.List.{List, [], ◌∷◌}
use Prim.Native.Nat.{ℕ, ◌+◌, ◌-◌, ◌≤◌, ◌<◌}
use native.Mathlib.Omega.{arith}
use borrow.Author.Tests.{le-ltb, ne_eqb}
use lib.Dec.{eqb, ltb}
use lib.ListN.{length, take, drop, get_or, drop_of_length-le, length-drop}
use lib.Seq.{drop-drop, get_or-drop}
use Rattle.text.specs.Class.{Range, range}
use Rattle.text.specs.Lists.{null}
use Rattle.text.specs.Parts.{Parts, part_at}
use Rattle.text.specs.Slice.{head_is}
use Rattle.text.proofs.Laws.{next, pick_of}
use Rattle.text.proofs.Leads.{lead_at, lead_most}
use Rattle.glob.specs.Set.{ranges, members, rising, good_set, covered, in_set}
use Rattle.text.specs.Contract.{lead}

-- ---- the first `]`
-- the bytes up to a place, and those behind the one that stands there
abbrev pub parts_in : List ℕ → List ℕ → Option Parts
parts_in front [] = None
parts_in front (b ∷ s) = Some record { front = front; back = s }

part_lead : (c : ℕ) (s : List ℕ) → part_at c s ≡ parts_in (take (lead c s) s) (drop (lead c s) s)
unfolding part_at lead
part_lead c [] = refl
part_lead c (b ∷ s) = go (eqb b c) refl (part_lead c s) (drop (lead c s) s) refl
  where
    go : (t : Bool) → eqb b c ≡ t → part_at c s ≡ parts_in (take (lead c s) s) (drop (lead c s) s) → (l : List ℕ) → drop (lead c s) s ≡ l → part_at c (b ∷ s) ≡ parts_in (take (lead c (b ∷ s)) (b ∷ s)) (drop (lead c (b ∷ s)) (b ∷ s))
    go true t e l q = rw t
    go false t e [] q = rw (t, e, q)
    go false t e (x ∷ l) q = rw (t, e, q)

-- r is where the first byte c from `at` on stands, or the length
pub record FirstFrom (c : ℕ) (p : List ℕ) (at r : ℕ) : Type 0 where
  pub low : at ≤ r
  pub high : r ≤ length p
  pub parts : part_at c (drop at p) ≡ parts_in (take (r - at) (drop at p)) (drop r p)
  pub found : r < length p → get_or p r 0 ≡ c

pub first_from : (c : ℕ) (p : List ℕ) (at r : ℕ) → at ≤ length p → r ≡ at + lead c (drop at p) → FirstFrom c p at r
first_from c p at r h e =
    let l : lead c (drop at p) ≡ r - at = omega arith in
    let z : at + (r - at) ≡ r = omega arith in
    let m : r - at ≤ length (drop at p) = rw l at (lead_most c (drop at p)) in
    let d : length (drop at p) ≡ length p - at = length-drop at p in
    let q : drop (r - at) (drop at p) ≡ drop r p = drop-drop (r - at) at p ∙ ap (λ (n : ℕ). drop n p) z in
    record {
      low = omega arith;
      high = omega arith;
      parts = part_lead c (drop at p) ∙ rw (l, q);
      found = λ g. let k : r - at < length (drop at p) = omega arith in rw (← z) (sym (get_or-drop at p (r - at) 0) ∙ rw (← l) (lead_at c (drop at p) (rw l k)));
    }

-- ---- the first range
some_range : (x : ℕ) (s : List ℕ) → null (ranges (x ∷ s)) ≡ false
unfolding ranges
some_range x [] = refl
some_range x (m ∷ []) = refl
some_range x (m ∷ y ∷ s) = pick_of (λ (l : List Range). null l ≡ false) (eqb m 45) refl refl

-- the first range of s, which begins with x; t is what follows it
module _ {t : List ℕ} {x : ℕ} where
  pub range_whole : (s : List ℕ) → Some x ≡ slice_get s 0 → 2 < length s → get_or s 1 0 ≡ 45 → t ≡ drop 3 s → ranges s ≡ range x (get_or s 2 0) ∷ ranges t
  unfolding ranges
  range_whole [] o h e q = absurd (omega arith)
  range_whole (a ∷ []) o h e q = absurd (omega arith)
  range_whole (a ∷ m ∷ []) o h e q = absurd (omega arith)
  range_whole (a ∷ m ∷ y ∷ s) o h e q = rw (e, q, same_Some x a o)

  pub range_one : (s : List ℕ) → Some x ≡ slice_get s 0 → (2 < length s → get_or s 1 0 ≡ 45 → ⊥) → t ≡ drop 1 s → ranges s ≡ range x x ∷ ranges t
  unfolding ranges
  range_one [] o n q = absurd (none-some x (sym o))
  range_one (a ∷ []) o n q = rw (q, same_Some x a o)
  range_one (a ∷ m ∷ []) o n q = rw (q, same_Some x a o)
  range_one (a ∷ m ∷ y ∷ s) o n q = rw (q, same_Some x a o, ne_eqb m 45 (n (omega arith)))

pub no_range : (s : List ℕ) → None ≡ slice_get s 0 → ranges s ≡ []
unfolding ranges
no_range [] o = refl
no_range (x ∷ s) o = absurd (none-some x o)

-- ---- the mark in front
members_is : (m : ℕ) (s : List ℕ) (r : ℕ) → r ≡ cond (head_is m s) 1 0 → members m s ≡ ranges (drop r s)
unfolding members
members_is m s r e = rw e (go (head_is m s))
  where
    go : (t : Bool) → ranges (cond t (drop 1 s) s) ≡ ranges (drop (cond t 1 0) s)
    go true = refl
    go false = refl

module _ (m : ℕ) (s : List ℕ) (r : ℕ) (e : r ≡ cond (head_is m s) 1 0) where
  pub good_none : length s ≤ r → ltb r (length s) ≡ good_set m s
  unfolding good_set ranges
  good_none h = rw (members_is m s r e, le-ltb _ _ h, drop_of_length-le s h)

  pub good_some : r < length s → list_all rising (ranges (drop r s)) ≡ good_set m s
  unfolding good_set
  good_some h = rw (members_is m s r e, next s r h, some_range (get_or s r 0) (drop (r + 1) s))

pub in_is : (m : ℕ) (s : List ℕ) (r b : ℕ) → r ≡ cond (head_is m s) 1 0 → not (beq (head_is m s) (covered (ranges (drop r s)) b)) ≡ in_set m s b
unfolding in_set
in_is m s r b e = rw (← (members_is m s r e)) (go (head_is m s) (covered (members m s) b))
  where
    go : (t c : Bool) → not (beq t c) ≡ cond t (not c) c
    go true true = refl
    go true false = refl
    go false true = refl
    go false false = refl
