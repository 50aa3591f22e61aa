-- The laws of the first byte c of a list: `lead` says how many bytes stand in front of it.
use Rattle.std.specs.Prelude.{None, Option, Some}
use mathlib.Core.Path.{◌≡◌, refl, sym, ap, ◌∙◌}
use mathlib.Core.Bool.{Bool, true, false, cond, ◌||◌}
use mathlib.Core.List.{List, [], ◌∷◌, ◌++◌}
use Prim.Native.Nat.{ℕ, zero, suc, ◌+◌, ◌-◌, ◌≤◌, ◌<◌}
use native.Mathlib.Omega.{arith}
use borrow.Author.Tests.{eq-eqb, ne_eqb, eqb-true, eqb-false, ltb-true, ltb-false}
use lib.Dec.{eqb, ltb}
use lib.ListN.{length, take, drop, get_or, length-drop, length-append, drop_of_length-le}
use lib.Seq.{drop-drop, drop-append_seam, get_or-drop}
use Rattle.text.specs.Lists.{has, split_at}
use Rattle.text.specs.Parts.{part_at}
use Rattle.text.specs.Contract.{lead, find_byte}
use Rattle.text.proofs.Laws.{next, part_start, part_rest, clash}

-- a turn of a loop that looks for c
module _ (c : ℕ) (s : List ℕ) (i : ℕ) where
  pub lead_on : i < length s → (get_or s i 0 ≡ c → ⊥) → i + 1 + lead c (drop (i + 1) s) ≡ i + lead c (drop i s)
  unfolding lead
  lead_on h t = rw (next s i, ne_eqb _ _ t) (omega arith)

  pub lead_hit : i < length s → get_or s i 0 ≡ c → i ≡ i + lead c (drop i s)
  unfolding lead
  lead_hit h t = rw (next s i, eq-eqb _ _ t) (omega arith)

  pub lead_end : length s ≤ i → i ≡ i + lead c (drop i s)
  unfolding lead
  lead_end h = rw (drop_of_length-le s) (omega arith)

module _ (c : ℕ) where
  -- a list that has a c: what holds where c is first, and with another byte in front, holds of it
  pub by_lead : (P : List ℕ → ℕ → Type 0) → ((s : List ℕ) → P (c ∷ s) 0) → ((b : ℕ) (s : List ℕ) (n : ℕ) → (b ≡ c → ⊥) → P s n → P (b ∷ s) (suc n)) → (s : List ℕ) → lead c s < length s → P s (lead c s)
  unfolding lead
  by_lead P here there [] h = absurd (omega arith)
  by_lead P here there (b ∷ s) h = go (eqb b c) refl h (λ k. by_lead P here there s k)
    where
      go : (t : Bool) → eqb b c ≡ t → cond t 0 (suc (lead c s)) < suc (length s) → (lead c s < length s → P s (lead c s)) → P (b ∷ s) (cond t 0 (suc (lead c s)))
      go true e h f = rw (eqb-true b c e) (here s)
      go false e h f = there b s (lead c s) (eqb-false b c e) (f (omega arith))

  -- a list that has none: the same from its end on
  pub by_none : (P : List ℕ → Type 0) → P [] → ((b : ℕ) (s : List ℕ) → (b ≡ c → ⊥) → P s → P (b ∷ s)) → (s : List ℕ) → length s ≤ lead c s → P s
  unfolding lead
  by_none P end there [] h = end
  by_none P end there (b ∷ s) h = go (eqb b c) refl h (λ k. by_none P end there s k)
    where
      go : (t : Bool) → eqb b c ≡ t → suc (length s) ≤ cond t 0 (suc (lead c s)) → (length s ≤ lead c s → P s) → P (b ∷ s)
      go true e h f = absurd (omega arith)
      go false e h f = there b s (eqb-false b c e) (f (omega arith))

  pub lead_most : (s : List ℕ) → lead c s ≤ length s
  unfolding lead
  lead_most [] = omega arith
  lead_most (b ∷ s) = go (eqb b c) (lead_most s)
    where
      go : (t : Bool) → lead c s ≤ length s → cond t 0 (suc (lead c s)) ≤ suc (length s)
      go true h = omega arith
      go false h = omega arith

  pub lead_at : (s : List ℕ) → lead c s < length s → get_or s (lead c s) 0 ≡ c
  lead_at = by_lead (λ s n. get_or s n 0 ≡ c) (λ s. refl) (λ b s n d p. p)

  lead_other : (s : List ℕ) (i : ℕ) → i < lead c s → get_or s i 0 ≡ c → ⊥
  unfolding lead
  lead_other [] i h e = absurd (omega arith)
  lead_other (b ∷ s) i h e = go (eqb b c) refl i h e (λ k. lead_other s k)
    where
      go : (t : Bool) → eqb b c ≡ t → (i : ℕ) → i < cond t 0 (suc (lead c s)) → get_or (b ∷ s) i 0 ≡ c → ((k : ℕ) → k < lead c s → get_or s k 0 ≡ c → ⊥) → ⊥
      go true t i h e f = omega arith
      go false t zero h e f = eqb-false b c t e
      go false t (suc k) h e f = f k (omega arith) e

  pub lead_before : (s : List ℕ) → lead c s < length s → has c (take (lead c s) s) ≡ false
  unfolding has
  lead_before = by_lead (λ s n. has c (take n s) ≡ false) (λ s. refl) (λ b s n d p. rw (ne_eqb b c d) p)

  pub lead_none : (s : List ℕ) → length s ≤ lead c s → has c s ≡ false
  unfolding has
  lead_none = by_none (λ s. has c s ≡ false) refl (λ b s d p. rw (ne_eqb b c d) p)

  split_lead : (s : List ℕ) → lead c s < length s → split_at c s ≡ take (lead c s) s ∷ split_at c (drop (suc (lead c s)) s)
  unfolding split_at
  split_lead = by_lead (λ s n. split_at c s ≡ take n s ∷ split_at c (drop (suc n) s)) (λ s. rw (eq-eqb c c refl)) (λ b s n d p. rw (ne_eqb b c d, p))

  split_none : (s : List ℕ) → length s ≤ lead c s → split_at c s ≡ s ∷ []
  unfolding split_at
  split_none = by_none (λ s. split_at c s ≡ s ∷ []) refl (λ b s d p. rw (ne_eqb b c d, p))

  parted_lead : (s : List ℕ) → lead c s < length s → part_at c s ≡ Some (record { front = take (lead c s) s; back = drop (suc (lead c s)) s })
  unfolding part_at
  parted_lead = by_lead (λ s n. part_at c s ≡ Some (record { front = take n s; back = drop (suc n) s })) (λ s. rw (eq-eqb c c refl)) (λ b s n d p. rw (ne_eqb b c d, p))

  parted_none : (s : List ℕ) → length s ≤ lead c s → part_at c s ≡ None
  unfolding part_at
  parted_none = by_none (λ s. part_at c s ≡ None) refl (λ b s d p. rw (ne_eqb b c d, p))

-- from a place on, with `end` where the first c from there stands, or the list's end
module _ (c : ℕ) (s : List ℕ) (from end : ℕ) (e : end ≡ from + lead c (drop from s)) where
  pub lead_past : length s ≤ end → length (drop from s) ≤ lead c (drop from s)
  lead_past h = omega (arith, length-drop from s)

  -- what is known by the bytes in front of the first c and those behind it, said of the place
  pub from_place : {A : Type 0} (X : List ℕ → A) (F : List ℕ → List ℕ → A) → ((t : List ℕ) → lead c t < length t → X t ≡ F (take (lead c t) t) (drop (suc (lead c t)) t)) → end < length s → X (drop from s) ≡ F (take (end - from) (drop from s)) (drop (end + 1) s)
  from_place X F law h =
      let k : lead c (drop from s) < length (drop from s) = omega (arith, length-drop from s) in
      let n : lead c (drop from s) ≡ end - from = omega arith in
      let m : from + suc (lead c (drop from s)) ≡ end + 1 = omega arith in
      law (drop from s) k ∙ rw (drop-drop (suc (lead c (drop from s))) from s, m, n)

  pub split_at_law : end < length s → split_at c (drop from s) ≡ take (end - from) (drop from s) ∷ split_at c (drop (end + 1) s)
  split_at_law = from_place (split_at c) (λ p t. p ∷ split_at c t) (split_lead c)

  pub split_last : length s ≤ end → split_at c (drop from s) ≡ drop from s ∷ []
  split_last h = split_none c (drop from s) (lead_past h)

  -- what stands at the end told, and that no c stands before it
  pub reach_stop : end < length s → get_or s end 0 ≡ c
  reach_stop h = let k : lead c (drop from s) < length (drop from s) = omega (arith, length-drop from s) in ap (λ (i : ℕ). get_or s i 0) e ∙ sym (get_or-drop from s (lead c (drop from s)) 0) ∙ lead_at c (drop from s) k

  pub reach_none : (j : ℕ) → from ≤ j → j < end → get_or s j 0 ≡ c → ⊥
  reach_none j h k q =
      let i : j - from < lead c (drop from s) = omega arith in
      let z : from + (j - from) ≡ j = omega arith in
      lead_other c (drop from s) (j - from) i (get_or-drop from s (j - from) 0 ∙ rw z q)

pub found_lead : (c : ℕ) (s : List ℕ) (i : ℕ) → find_byte c 0 s ≡ Some i → (i ≡ lead c s) × (i < length s)
unfolding find_byte
found_lead c s i e =
    let t = told (ltb (lead c s) (length s)) (0 + lead c s) i e in
    let h = ltb-true (lead c s) (length s) t.0 in
    (omega (arith, t.1), omega (arith, t.1, h))
  where
    told : (t : Bool) (m i : ℕ) → cond t (Some m) None ≡ Some i → (t ≡ true) × (m ≡ i)
    told true m i e = (refl, cc)
    told false m i e = (cc, cc)

pub missing_lead : (c at : ℕ) (s : List ℕ) → find_byte c at s ≡ None → length s ≤ lead c s
unfolding find_byte
missing_lead c at s e = ltb-false (lead c s) (length s) (told (ltb (lead c s) (length s)) e)
  where
    told : (t : Bool) → cond t (Some (at + lead c s)) None ≡ None → t ≡ false
    told true e = clash cc
    told false e = refl

-- a text parted at its first c, as the code has its two parts
module _ (c : ℕ) (s : List ℕ) (r : Option ℕ) (f : r ≡ find_byte c 0 s) where
  pub found_parts : {i : ℕ} → r ≡ Some i → part_at c s ≡ Some (record { front = take (i - 0) (drop 0 s); back = take (length s - (i + 1)) (drop (i + 1) s) })
  found_parts {i} e =
      let t = found_lead c s i (sym f ∙ e) in
      let h : lead c s < length s = omega (arith, t.0, t.1) in
      let k : i + 1 ≡ suc (lead c s) = omega (arith, t.0) in
      rw (part_start i s, part_rest (i + 1) s, k, t.0) (parted_lead c s h)

  pub found_none : r ≡ None → part_at c s ≡ None
  found_none e = parted_none c s (missing_lead c 0 s (sym f ∙ e))

-- bytes without c in front
skipped : (c : ℕ) (x t : List ℕ) → has c x ≡ false → lead c (x ++ t) ≡ length x + lead c t
unfolding lead has
skipped c [] t e = omega arith
skipped c (b ∷ x) t e = go (eqb b c) e (λ k. skipped c x t k)
  where
    go : (u : Bool) → u || has c x ≡ false → (has c x ≡ false → lead c (x ++ t) ≡ length x + lead c t) → cond u 0 (suc (lead c (x ++ t))) ≡ suc (length x) + lead c t
    go true e f = clash cc
    go false e f = let k = f e in omega arith

-- the same of a block that stands at a place
pub block_on : (c : ℕ) (s x t : List ℕ) (n : ℕ) → n ≤ length s → drop n s ≡ x ++ t → has c x ≡ false → (n + length x ≤ length s) × (t ≡ drop (n + length x) s) × (n + length x + lead c (drop (n + length x) s) ≡ n + lead c (drop n s))
block_on c s x t n h d e =
    let l = ap length d in
    let m = skipped c x t e in
    let q = sym (drop-append_seam x t) ∙ ap (drop (length x)) (sym d) ∙ drop-drop (length x) n s in
    (omega (arith, length-append x t, length-drop n s, l), q, omega (arith, m, ap (lead c) d, ap (lead c) q))
