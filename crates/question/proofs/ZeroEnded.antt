-- The laws of zero-ended strings.
use Rattle.std.specs.Prelude.{None, Option, Some}
use Rattle.std.specs.List.{filter, list_all, enumerate_from}
use Rattle.std.proofs.lemmas.List.Sums.{length-filter, count_by-le-length}
use mathlib.Core.Path.{◌≡◌, refl, sym, ◌∙◌}
use mathlib.Core.Bool.{Bool, true, false, cond, ◌&&◌}
use mathlib.Core.List.{List, [], ◌∷◌}
use Prim.Native.Nat.{ℕ, suc, ◌+◌, ◌-◌, ◌≤◌, ◌<◌}
use native.Mathlib.Nat.{add-zero, zero-add}
use native.Mathlib.Omega.{arith}
use native.Mathlib.Numerals.{add-one, unary_clauses}
use borrow.Author.Tests.{ne_eqb, le-leb, lt-leb, ltb-true, ltb-false}
use lib.Dec.{eqb, leb, ltb}
use lib.ListN.{length, take, drop, get_or, drop_of_length-le}
use Rattle.text.specs.Lists.{with_byte}
use Rattle.text.specs.Contract.{lead, find_byte}
use Rattle.text.proofs.Laws.{both_no}
use Rattle.text.proofs.Leads.{by_lead, by_none, lead_past, from_place}
use Rattle.question.specs.Strings.{in_front, strings_of}
use Rattle.question.specs.Question.{good_strings}
use Rattle.question.specs.Contract.{strings_in}

-- the first string, and the strings behind its zero
in-first : (s : List ℕ) → lead 0 s < length s → strings_in s ≡ take (lead 0 s) s ∷ strings_in (drop (suc (lead 0 s)) s)
unfolding strings_in
in-first = by_lead 0 (λ s n. strings_in s ≡ take n s ∷ strings_in (drop (suc n) s)) (λ s. refl) (λ b s n d p. rw (ne_eqb b 0 d, p))

in_cut : (s : List ℕ) → length s ≤ lead 0 s → strings_in s ≡ []
unfolding strings_in
in_cut = by_none 0 (λ s. strings_in s ≡ []) refl (λ b s d p. rw (ne_eqb b 0 d, p))

-- the place of the first zero, where it is known
pub record FirstString (s : List ℕ) (end : ℕ) : Type 0 where
  pub inside : end < length s
  pub first : strings_in s ≡ take end s ∷ strings_in (drop (end + 1) s)

pub first_string : (s : List ℕ) (end : ℕ) → Some end ≡ find_byte 0 0 s → FirstString s end
unfolding find_byte
first_string s end = go (ltb (lead 0 s) (length s)) refl
  where
    go : (t : Bool) → ltb (lead 0 s) (length s) ≡ t → Some end ≡ cond t (Some (0 + lead 0 s)) None → FirstString s end
    go true h e =
        let l : lead 0 s < length s = ltb-true _ _ h in
        let q : end ≡ lead 0 s = (let p : end ≡ 0 + lead 0 s = cc in omega (arith, p)) in
        rw q record { inside = l; first = rw add-one (in-first s l) }
    go false h e = cc

pub no_string : (s : List ℕ) → None ≡ find_byte 0 0 s → strings_in s ≡ []
unfolding find_byte
no_string s = go (ltb (lead 0 s) (length s)) refl
  where
    go : (t : Bool) → ltb (lead 0 s) (length s) ≡ t → None ≡ cond t (Some (0 + lead 0 s)) None → strings_in s ≡ []
    go true h e = cc
    go false h e = in_cut s (ltb-false _ _ h)

-- each string has one zero
pub zeros_are : (s : List ℕ) → length (strings_in s) ≡ length (filter (λ b. eqb b 0) s)
unfolding strings_in
zeros_are [] = refl
zeros_are (b ∷ s) = go (eqb b 0) (strings_in s) (zeros_are s)
  where
    go : (t : Bool) (ps : List (List ℕ)) → length ps ≡ length (filter (λ b. eqb b 0) s) → length (with_byte t b ps) ≡ length (cond t (b ∷ filter (λ b. eqb b 0) s) (filter (λ b. eqb b 0) s))
    go true ps e = rw e
    go false [] e = e
    go false (p ∷ ps) e = e

-- there are no more strings than bytes
pub strings_most : (s : List ℕ) → length (strings_in s) ≤ length s
strings_most s = rw (zeros_are s, length-filter) (count_by-le-length (λ b. eqb b 0) s)

-- a byte is in a string
some : (x : ℕ) (s : List ℕ) → strings_of (x ∷ s) ≡ Some [] → ⊥
unfolding strings_of
some x s = go (eqb x 0) (strings_of s)
  where
    go : (t : Bool) (o : Option (List (List ℕ))) → in_front x t o ≡ Some [] → ⊥
    go t None e = cc
    go true (Some ps) e = cc
    go false (Some []) e = cc
    go false (Some (p ∷ ps)) e = cc

-- a list whose last byte is no zero is none; any other has its strings
pub strings_are : (s : List ℕ) → strings_of s ≡ cond (eqb (get_or s (length s - 1) 0) 0) (Some (strings_in s)) None
unfolding strings_of strings_in
strings_are [] = refl
strings_are (b ∷ []) = go (eqb b 0)
  where
    go : (t : Bool) → in_front b t (Some []) ≡ cond t (Some (with_byte t b [])) None
    go true = refl
    go false = refl
strings_are (b ∷ (x ∷ s)) = simp unary_clauses (go (eqb b 0) (eqb (get_or (x ∷ s) (length s) 0) 0) (strings_of (x ∷ s)) (strings_in (x ∷ s)) (simp unary_clauses at (strings_are (x ∷ s))) (some x s))
  where
    go : (t u : Bool) (o : Option (List (List ℕ))) (ps : List (List ℕ)) → o ≡ cond u (Some ps) None → (o ≡ Some [] → ⊥) → in_front b t o ≡ cond u (Some (with_byte t b ps)) None
    go t false o ps e n = rw e
    go true true o ps e n = rw e
    go false true o [] e n = absurd (n e)
    go false true o (p ∷ ps) e n = rw e

-- whether each string is good and its number, counted from k, is below `most`: whether there are so few, each of them good
numbered : (most k : ℕ) (f : List ℕ → Bool) (ps : List (List ℕ)) → k ≤ most → list_all (λ p. ltb p.0 most && f p.1) (enumerate_from k ps) ≡ leb (k + length ps) most && list_all f ps
numbered most k f [] h = rw (add-zero, le-leb k most h)
numbered most k f (p ∷ ps) h = go (ltb k most) (f p) refl (λ l. numbered most (k + 1) f ps l)
  where
    rest : Bool
    rest = list_all (λ p. ltb p.0 most && f p.1) (enumerate_from (k + 1) ps)

    go : (t u : Bool) → ltb k most ≡ t → (k + 1 ≤ most → rest ≡ leb (k + 1 + length ps) most && list_all f ps) → t && u && rest ≡ leb (k + suc (length ps)) most && (u && list_all f ps)
    go true true e g =
        let l = ltb-true k most e in
        let z : k + suc (length ps) ≡ k + 1 + length ps = omega arith in
        rw z (g (omega arith))
    go true false e g = sym (both_no (leb (k + suc (length ps)) most))
    go false u e g = let l = ltb-false k most e in rw (lt-leb (k + suc (length ps)) most (omega arith))

-- the same of all strings
pub good_numbered : (most : ℕ) (f : List ℕ → Bool) (ps : List (List ℕ)) → list_all (λ p. ltb p.0 most && f p.1) (enumerate_from 0 ps) ≡ good_strings most f ps
unfolding good_strings
good_numbered most f ps = numbered most 0 f ps (omega arith) ∙ rw zero-add

-- the strings of a good list are the strings of it
pub strings_in_law : (s : List ℕ) (ps : List (List ℕ)) → strings_of s ≡ Some ps → strings_in s ≡ ps
strings_in_law s ps e = go (eqb (get_or s (length s - 1) 0) 0) (rw strings_are at e)
  where
    go : (t : Bool) → cond t (Some (strings_in s)) None ≡ Some ps → strings_in s ≡ ps
    go true e = cc
    go false e = cc

-- at a place of s, with `end` where the string that begins there ends
module _ (s : List ℕ) (from end : ℕ) (e : end ≡ from + lead 0 (drop from s)) where
  pub in_at : end < length s → strings_in (drop from s) ≡ take (end - from) (drop from s) ∷ strings_in (drop (end + 1) s)
  in_at = from_place 0 s from end e strings_in (λ p t. p ∷ strings_in t) in-first

  pub in_open : end ≡ length s → strings_in (drop from s) ≡ []
  in_open q = in_cut (drop from s) (lead_past 0 s from end e (omega arith))

-- past the list's end
module _ (s : List ℕ) (i : ℕ) where
  pub in_end : length s ≤ i → strings_in (drop i s) ≡ []
  unfolding strings_in
  in_end h = rw (drop_of_length-le s)
