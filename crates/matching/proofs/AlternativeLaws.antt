-- The laws of an alternative's parts. Assumes nothing.
use Rattle.std.specs.Prelude.{None, Some}
use Rattle.std.specs.List.{list_all, list_any}
use mathlib.Core.Path.{◌≡◌, refl, sym, ◌∙◌}
use mathlib.Core.Bool.{Bool, true, false, cond, ◌||◌}
use mathlib.Core.List.{List, [], ◌∷◌}
use Prim.Native.Nat.{ℕ, suc, ◌+◌, ◌-◌, ◌≤◌, ◌<◌}
use native.Mathlib.Omega.{arith}
use borrow.Author.Tests.{ne_eqb, eqb-true}
use lib.Dec.{eqb}
use lib.ListN.{length, take, drop, get_or, drop_of_length-le, length-drop}
use lib.Seq.{take_all}
use Rattle.text.specs.Lists.{has, onto}
use Rattle.matching.specs.declared.alternative.ByteContext.{ByteContext}
use Rattle.matching.specs.declared.alternative.ByteContext.TheVariants.{Free, Escaped, InSet}
use Rattle.matching.specs.declared.alternative.Parted.TheVariants.{Name, NameAtHost}
use Rattle.matching.specs.Alternative.{context_after, parts_at, parted_by, parts_of, good_part, from_parts, alternative_of}
use Rattle.matching.specs.Contract.{parts_by, PartsFrom, Simple, is_simple, SimpleName, TellsAlternative}
use Rattle.text.proofs.Laws.{next, both_true, untrue}

-- ---- the first `@` that parts
free_again : (w : ByteContext) (c : ℕ) → parts_at w c ≡ true → context_after w c ≡ Free
unfolding context_after parts_at
free_again Free c e = let k = eqb-true c 64 e in rw k
free_again Escaped c e = refl
free_again InSet c e = cc

module _ (w : ByteContext) (a : List ℕ) (i : ℕ) where
  pub parts_here : i < length a → parts_at w (get_or a i 0) ≡ true → PartsFrom w a i i
  unfolding parts_of
  parts_here h e =
      let z : i - i ≡ 0 = omega arith in
      record { low = omega arith; high = omega arith; parts = rw (z, next a i h, e, free_again w (get_or a i 0) e) }

  pub parts_end : length a ≤ i → i ≤ length a → PartsFrom w a i i
  unfolding parts_of
  parts_end h g =
      let z : i - i ≡ 0 = omega arith in
      record { low = omega arith; high = g; parts = rw (z, drop_of_length-le a h) }

  pub parts_next : (r : ℕ) → i < length a → parts_at w (get_or a i 0) ≡ false → PartsFrom (context_after w (get_or a i 0)) a (i + 1) r → PartsFrom w a i r
  unfolding parts_of
  parts_next r h e v =
      let z : r - i ≡ suc (r - (i + 1)) = omega (arith, v.low) in
      record { low = omega (arith, v.low); high = v.high; parts = rw (z, next a i h, e, v.parts) (go (drop r a)) }
    where
      p : List ℕ
      p = take (r - (i + 1)) (drop (i + 1) a)

      go : (l : List ℕ) → onto (get_or a i 0) (parts_by p l) ≡ parts_by (get_or a i 0 ∷ p) l
      go [] = refl
      go (x ∷ l) = refl

-- ---- the parts of a whole alternative
from_bad : (n : List ℕ) (ps : List (List ℕ)) → good_part n ≡ false → None ≡ from_parts (n ∷ ps)
from_bad n [] e = rw e
from_bad n (h ∷ []) e = rw e
from_bad n (h ∷ x ∷ ps) e = refl

from_third : (n h : List ℕ) (ps : List (List ℕ)) → 0 < length ps → None ≡ from_parts (n ∷ h ∷ ps)
from_third n h [] g = absurd (omega arith)
from_third n h (x ∷ ps) g = refl

onto_some : (c : ℕ) (ps : List (List ℕ)) → 0 < length (onto c ps)
onto_some c [] = omega arith
onto_some c (p ∷ ps) = omega arith

parted_some : (t : Bool) (c : ℕ) (ps : List (List ℕ)) → 0 < length (parted_by t c ps)
parted_some true c ps = omega arith
parted_some false c ps = onto_some c ps

parts_some : (w : ByteContext) (s : List ℕ) → 0 < length (parts_of w s)
unfolding parts_of
parts_some w [] = omega arith
parts_some w (c ∷ s) = parted_some (parts_at w c) c (parts_of (context_after w c) s)

whole_part_law : (a : List ℕ) (r from : ℕ) → length a ≤ r → take (r - from) (drop from a) ≡ drop from a
whole_part_law a r from h = let k : length (drop from a) ≤ r - from = rw length-drop (omega arith) in take_all _ _ k

module _ (a : List ℕ) where
  pub part_colon : list_any (λ b. eqb b 58) a ≡ true → TellsAlternative a None
  unfolding alternative_of has
  part_colon e = record { within = tt; same = rw e }

  pub part_tilde : list_any (λ b. eqb b 126) a ≡ true → TellsAlternative a None
  unfolding alternative_of has
  part_tilde e = record { within = tt; same = go (has 58 a) }
    where
      go : (t : Bool) → None ≡ cond (t || has 126 a) None (from_parts (parts_of Free a))
      go true = refl
      go false = rw e

  module _ (u : list_any (λ b. eqb b 58) a ≡ false) (v : list_any (λ b. eqb b 126) a ≡ false) (at : ℕ) (w : PartsFrom Free a 0 at) where
    from_parts_law : (ps : List (List ℕ)) → parts_of Free a ≡ ps → alternative_of a ≡ from_parts ps
    unfolding alternative_of has
    from_parts_law ps e = rw (u, v, e)

    start : take (at - 0) a ≡ take at a
    start = let z : at - 0 ≡ at = omega arith in rw z

    pub part_bad_name : good_part (take at a) ≡ false → TellsAlternative a None
    part_bad_name e = record { within = tt; same = sym (from_parts_law (parts_by (take at a) (drop at a)) (w.parts ∙ rw start) ∙ go (drop at a)) }
      where
        go : (l : List ℕ) → from_parts (parts_by (take at a) l) ≡ None
        go [] = sym (from_bad _ [] e)
        go (c ∷ l) = sym (from_bad _ (parts_of Free l) e)

    module _ (g : good_part (take at a) ≡ true) where
      pub part_name : length a ≤ at → TellsAlternative a (Some Name)
      part_name h = record { within = tt; same = sym (from_parts_law (take at a ∷ []) (w.parts ∙ rw (start, drop_of_length-le a h)) ∙ go (take_all at a h)) }
        where
          go : take at a ≡ a → from_parts (take at a ∷ []) ≡ Some record { name = a; host = None }
          go k = rw (g, k)

      module _ (h : at < length a) (e : ℕ) (x : PartsFrom Free a (at + 1) e) where
        two : parts_of Free a ≡ take at a ∷ parts_by (take (e - (at + 1)) (drop (at + 1) a)) (drop e a)
        two = w.parts ∙ rw (start, next a at h, x.parts)

        pub part_third : e < length a → TellsAlternative a None
        part_third k = record { within = tt; same = sym (from_parts_law (take at a ∷ take (e - (at + 1)) (drop (at + 1) a) ∷ parts_of Free (drop (e + 1) a)) (two ∙ rw (next a e k)) ∙ sym (from_third _ _ (parts_of Free (drop (e + 1) a)) (parts_some Free (drop (e + 1) a)))) }

        two_only : length a ≤ e → parts_of Free a ≡ take at a ∷ drop (at + 1) a ∷ []
        two_only k = two ∙ rw (whole_part_law a e (at + 1) k, drop_of_length-le a k)

        pub part_both : length a ≤ e → good_part (drop (at + 1) a) ≡ true → TellsAlternative a (Some (NameAtHost at))
        part_both k f = record { within = h; same = sym (from_parts_law _ (two_only k) ∙ rw (g, f)) }

        pub part_bad_host : length a ≤ e → good_part (drop (at + 1) a) ≡ false → TellsAlternative a None
        part_bad_host k f = record { within = tt; same = sym (from_parts_law _ (two_only k) ∙ rw (g, f)) }

-- ---- bytes that are one part
simple_byte : (b : ℕ) → is_simple b ≡ true → Simple b
simple_byte b e = record { no_colon = λ z. untrue (rw z at e); no_tilde = λ z. untrue (rw z at e); no_at = λ z. untrue (rw z at e); no_slash = λ z. untrue (rw z at e); no_bracket = λ z. untrue (rw z at e) }

simple_more : (b : ℕ) (s : List ℕ) → Simple b → SimpleName s → SimpleName (b ∷ s)
unfolding has parts_of parts_at context_after
simple_more b s w v = record {
  no_colon = rw (ne_eqb b 58 w.no_colon) v.no_colon;
  no_tilde = rw (ne_eqb b 126 w.no_tilde) v.no_tilde;
  one = rw (ne_eqb b 64 w.no_at, ne_eqb b 92 w.no_slash, ne_eqb b 91 w.no_bracket, v.one);
}

simple_name : (a : List ℕ) → list_all is_simple a ≡ true → SimpleName a
unfolding has parts_of
simple_name [] e = record { no_colon = refl; no_tilde = refl; one = refl }
simple_name (b ∷ s) e = let p = both_true (is_simple b) (list_all is_simple s) e in simple_more b s (simple_byte b p.0) (simple_name s p.1)

module _ (a : List ℕ) (e : list_all is_simple a ≡ true) where
  pub simple_good : good_part a ≡ true → TellsAlternative a (Some Name)
  unfolding alternative_of
  simple_good g = let w = simple_name a e in record { within = tt; same = rw (w.no_colon, w.no_tilde, w.one, g) }

  pub simple_bad : good_part a ≡ false → TellsAlternative a None
  unfolding alternative_of
  simple_bad g = let w = simple_name a e in record { within = tt; same = rw (w.no_colon, w.no_tilde, w.one, g) }
