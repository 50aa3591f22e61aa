-- One side of a rule: what stands behind a word, and what an id tells.
use Rattle.std.proofs.Common.{◌≡◌, ℕ, suc, ◌+◌, ◌<◌, Bool, true, false, not, List, ◌∷◌, None, Some, Option, length, take, drop, refl, sym, ap, ◌∙◌, arith, add-one, length-drop}
use Rattle.std.specs.Option.{option_map, option_and_then}
use Rattle.std.specs.Str.{bytes_eq}
use Rattle.std.proofs.lemmas.Slice.Eq.{bytes_eq-Decides}
use Rattle.text.specs.Bytes.{bytes}
use Rattle.text.specs.Class.{blank}
use Rattle.text.proofs.Laws.{next}
use Rattle.suauth.specs.Rule.{Names, those, all_except, behind_word, names_in, ids_in}
use Rattle.suauth.specs.Meaning.{holds, means}
use Rattle.suauth.specs.Contract.{names_told, ids_told}

-- one byte further
drop_more : (n : ℕ) (s : List ℕ) (b : ℕ) (r : List ℕ) → drop n s ≡ b ∷ r → drop (suc n) s ≡ r
drop_more n s b r e =
    let l : n < length s = omega (arith, simp length-drop at (ap length e)) in
    let h : drop (suc n) s ≡ drop (n + 1) s = rw add-one in
    cc (next s n l)

pub word_behind : (w s : List ℕ) (b : ℕ) (r : List ℕ) → bytes_eq (take (length w) s) w ≡ true → drop (length w) s ≡ b ∷ r → blank b ≡ true → Some r ≡ behind_word w s
unfolding behind_word
word_behind w s b r p d t =
    let same : take (length w) s ≡ w = (bytes_eq-Decides _ _).0 p in
    rw (same, (bytes_eq-Decides w w).1 refl, d, t) (ap Some (sym (drop_more (length w) s b r d)))

-- ---- what an id tells
module _ (s user : List ℕ) (groups : List (List ℕ)) (from : Bool) where
  as_those : (o : Option Names) → names_told user groups o ≡ ids_told user groups (option_map those o)
  unfolding means
  as_those None = refl
  as_those (Some n) = refl

  as_others : (o : Option Names) → option_map not (names_told user groups o) ≡ ids_told user groups (option_map all_except o)
  unfolding means
  as_others None = refl
  as_others (Some n) = refl

  module _ (t : bytes_eq s (bytes "ALL") ≡ false) where
    pub ids_names : option_and_then (behind_word (bytes "EXCEPT")) (behind_word (bytes "ALL") s) ≡ None → names_told user groups (names_in from s) ≡ ids_told user groups (ids_in from s)
    unfolding ids_in
    ids_names e = rw (t, e) (as_those (names_in from s))

    pub ids_except : {u : List ℕ} → option_and_then (behind_word (bytes "EXCEPT")) (behind_word (bytes "ALL") s) ≡ Some u → option_map not (names_told user groups (names_in from u)) ≡ ids_told user groups (ids_in from s)
    unfolding ids_in
    ids_except {u} e = rw (t, e) (as_others (names_in from u))
