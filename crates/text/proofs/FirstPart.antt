-- The first of the parts between the bytes c, and those behind it.
use Rattle.std.specs.List.{slice_split}
use Rattle.std.specs.Prelude.{None, Some}
use mathlib.Core.Path.{◌≡◌, refl, sym}
use mathlib.Core.List.{List, [], ◌∷◌}
use Prim.Native.Nat.{ℕ, suc, ◌+◌, ◌≤◌, ◌<◌}
use native.Mathlib.Numerals.{add-one}
use native.Mathlib.Omega.{arith}
use borrow.Author.Tests.{eq-eqb, ne_eqb}
use lib.Dec.{eqb}
use lib.ListN.{length, take, drop}
use Rattle.text.specs.Contract.{lead, find_byte}
use Rattle.text.proofs.Leads.{by_lead, by_none, found_lead, missing_lead}

module _ (c : ℕ) where
  abbrev parts : List ℕ → List (List ℕ)
  parts = slice_split (λ b. eqb b c)

  part_lead : (s : List ℕ) → lead c s < length s → parts s ≡ take (lead c s) s ∷ parts (drop (suc (lead c s)) s)
  part_lead = by_lead c (λ s n. parts s ≡ take n s ∷ parts (drop (suc n) s)) (λ s. rw (eq-eqb c c refl)) (λ b s n d p. rw (ne_eqb b c d, p))

  part_last : (s : List ℕ) → length s ≤ lead c s → parts s ≡ s ∷ []
  part_last = by_none c (λ s. parts s ≡ s ∷ []) refl (λ b s d p. rw (ne_eqb b c d, p))

  -- the place of the first c, where it is known
  pub record FirstPart (s : List ℕ) (end : ℕ) : Type 0 where
    pub inside : end < length s
    pub first : slice_split (λ b. eqb b c) s ≡ take end s ∷ slice_split (λ b. eqb b c) (drop (end + 1) s)

  pub first_part : (s : List ℕ) (end : ℕ) → Some end ≡ find_byte c 0 s → FirstPart s end
  first_part s end e =
      let t = found_lead c s end (sym e) in
      let l : lead c s < length s = omega (arith, t.0, t.1) in
      rw t.0 record { inside = l; first = rw add-one (part_lead s l) }

  pub one_part : (s : List ℕ) → None ≡ find_byte c 0 s → slice_split (λ b. eqb b c) s ≡ s ∷ []
  one_part s e = part_last s (missing_lead c 0 s (sym e))
