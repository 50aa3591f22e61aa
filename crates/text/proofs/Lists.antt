-- The laws of the list functions, and of a text parted at a byte.
use Rattle.std.specs.Prelude.{None, Some}
use Rattle.std.specs.List.{list_all, list_any, fold}
use Rattle.std.proofs.lemmas.List.Folds.{fold_stays}
use mathlib.Core.Path.{◌≡◌, refl, sym}
use mathlib.Core.Bool.{Bool, true, false, ◌&&◌, ◌||◌}
use mathlib.Core.List.{List, [], ◌∷◌, ◌++◌}
use Prim.Native.Nat.{ℕ, zero, suc, ◌+◌, ◌≤◌, ◌<◌}
use native.Mathlib.Omega.{arith}
use borrow.Author.Tests.{eq-eqb}
use lib.Dec.{eqb}
use lib.ListN.{length, take, drop, get_or, drop_of_length-le}
use lib.Seq.{take-nil}
use Rattle.text.specs.Lists.{null, has}
use Rattle.text.specs.Contract.{find_byte}
use Rattle.text.specs.Parts.{part_at}
use Rattle.text.proofs.Leads.{found_parts, found_none}
use Rattle.text.proofs.Laws.{next_of, both_true, both_assoc, either_of, either_assoc, part_start, part_rest}

-- a fold that looks at every element
pub fold_any : {A : Type 0} (f : A → Bool) (xs : List A) → fold (λ found x. found || f x) false xs ≡ list_any f xs
fold_any f [] = refl
fold_any f (x ∷ xs) = by (f x) (fold_any f xs)
  where
    by : (t : Bool) → fold (λ found y. found || f y) false xs ≡ list_any f xs → fold (λ found y. found || f y) t xs ≡ t || list_any f xs
    by true e = fold_stays (λ found y. found || f y) true (λ y. refl) xs
    by false e = e

-- a turn of a loop that asks each element, with z for what stands past the end
module _ {A : Type 0} (z : A) (f : A → Bool) (s : List A) (i : ℕ) where
  pub all_on : i < length s → f (get_or s i z) ≡ true → list_all f (drop (i + 1) s) ≡ list_all f (drop i s)
  all_on h t = rw (next_of z s i, t)

  pub all_off : i < length s → f (get_or s i z) ≡ false → false ≡ list_all f (drop i s)
  all_off h t = rw (next_of z s i, t)

  pub any_on : i < length s → f (get_or s i z) ≡ false → list_any f (drop (i + 1) s) ≡ list_any f (drop i s)
  any_on h t = rw (next_of z s i, t)

  pub any_off : i < length s → f (get_or s i z) ≡ true → true ≡ list_any f (drop i s)
  any_off h t = rw (next_of z s i, t)

module _ {A : Type 0} (f : A → Bool) (s : List A) (i : ℕ) where
  pub all_end : length s ≤ i → true ≡ list_all f (drop i s)
  all_end h = rw (drop_of_length-le s)

  pub any_end : length s ≤ i → false ≡ list_any f (drop i s)
  any_end h = rw (drop_of_length-le s)

module _ {A : Type 0} (f : A → Bool) where
  pub all_append : (xs ys : List A) → list_all f (xs ++ ys) ≡ list_all f xs && list_all f ys
  all_append [] ys = refl
  all_append (x ∷ xs) ys = rw (all_append xs ys) (sym (both_assoc (f x) (list_all f xs) (list_all f ys)))

  all_front : (m k : ℕ) (t : List A) → k ≤ m → list_all f (take m t) ≡ true → list_all f (take k t) ≡ true
  all_front m zero t h e = refl
  all_front zero (suc k) t h e = absurd (omega arith)
  all_front (suc m) (suc k) [] h e = refl
  all_front (suc m) (suc k) (x ∷ t) h e = let d = both_true (f x) (list_all f (take m t)) e in rw (d.0, all_front m k t (omega arith) d.1)

  -- a part of a beginning
  pub all_part : (m k i : ℕ) (t : List A) → i + k ≤ m → list_all f (take m t) ≡ true → list_all f (take k (drop i t)) ≡ true
  all_part m k zero t h e = all_front m k t (omega arith) e
  all_part zero k (suc i) t h e = absurd (omega arith)
  all_part (suc m) k (suc i) [] h e = rw (take-nil {A = A} k)
  all_part (suc m) k (suc i) (x ∷ t) h e = all_part m k i t (omega arith) (both_true (f x) (list_all f (take m t)) e).1

  pub any_append : (xs ys : List A) → list_any f (xs ++ ys) ≡ list_any f xs || list_any f ys
  any_append [] ys = refl
  any_append (x ∷ xs) ys = rw (any_append xs ys) (sym (either_assoc (f x) (list_any f xs) (list_any f ys)))

  pub any_at : (z : A) (s : List A) (i : ℕ) → i < length s → f (get_or s i z) ≡ true → list_any f s ≡ true
  any_at z [] i h e = absurd (omega arith)
  any_at z (x ∷ s) zero h e = rw e
  any_at z (x ∷ s) (suc i) h e = either_of (f x) (list_any f s) (any_at z s i (omega arith) e)

pub has_at : (c : ℕ) (s : List ℕ) (i : ℕ) → i < length s → get_or s i 0 ≡ c → has c s ≡ true
unfolding has
has_at c s i h e = any_at (λ b. eqb b c) 0 s i h (eq-eqb _ _ e)

-- the text parted at its first c, by the place of that byte
pub parted_found : (c : ℕ) (s : List ℕ) (i : ℕ) → find_byte c 0 s ≡ Some i → part_at c s ≡ Some (record { front = take i s; back = drop (i + 1) s })
parted_found c s i e = rw (part_start i s, part_rest (i + 1) s) at (found_parts c s (Some i) (sym e) refl)

pub parted_missing : (c : ℕ) (s : List ℕ) → find_byte c 0 s ≡ None → part_at c s ≡ None
parted_missing c s e = found_none c s None (sym e) refl

-- a list that has an element
pub filled : {A : Type 0} (s : List A) → (length s ≡ 0 → ⊥) → null s ≡ false
filled [] n = absurd (n refl)
filled (x ∷ s) n = refl
