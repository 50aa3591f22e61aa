-- The laws of the physical line of a place.
use Rattle.std.proofs.Common.{◌≡◌, ℕ, zero, suc, ◌+◌, ◌≤◌, ◌<◌, Bool, true, false, cond, List, length, take, get_or, refl, sym, ◌∙◌, arith, length-take}
use lib.Dec.{eqb, ltb}
use borrow.Author.Tests.{eq-eqb, ne_eqb, ltb-true, ltb-false}
use lib.Seq.{get_or-take}
use Rattle.explain.specs.Place.{line_start, NoNewline, LastNewline}

module _ (t : List ℕ) where
  none_before : (p : ℕ) → ((k : ℕ) → k < p → get_or t k 0 ≡ 10 → ⊥) → line_start t p ≡ 0
  unfolding line_start
  none_before zero h = refl
  none_before (suc p) h = rw (ne_eqb (get_or t p 0) 10 (h p (omega arith))) (none_before p (λ k l. h k (omega arith)))

  last_before : (p i : ℕ) → i < p → get_or t i 0 ≡ 10 → ((k : ℕ) → i < k → k < p → get_or t k 0 ≡ 10 → ⊥) → line_start t p ≡ suc i
  unfolding line_start
  last_before zero i l e h = absurd (omega arith)
  last_before (suc p) i l e h = go (ltb i p) refl (λ m. last_before p i m e (λ k u v. h k u (omega arith)))
    where
      go : (x : Bool) → ltb i p ≡ x → (i < p → line_start t p ≡ suc i) → cond (eqb (get_or t p 0) 10) (suc p) (line_start t p) ≡ suc i
      go true q rec = let m : i < p = ltb-true _ _ q in rw (ne_eqb (get_or t p 0) 10 (h p m (omega arith))) (rec m)
      go false q rec = let m : p ≤ i = ltb-false _ _ q in let z : p ≡ i = omega arith in rw (z, eq-eqb (get_or t i 0) 10 e)

  -- the same of the bytes in front of a place
  at_front : (p k : ℕ) → k < p → get_or (take p t) k 0 ≡ get_or t k 0
  at_front p k l = rw get_or-take

  pub start_none : (p : ℕ) → p ≤ length t → NoNewline (take p t) → 0 ≡ line_start t p
  start_none p b h = sym (none_before p (λ k l e. h k (omega (arith, length-take p t)) (at_front p k l ∙ e)))

  pub start_some : (p i : ℕ) → p ≤ length t → LastNewline (take p t) i → (i + 1 ≡ line_start t p) × (i + 1 ≤ p)
  start_some p i b h =
      let l : i < p = omega (arith, length-take p t, h.inside) in
      let e : line_start t p ≡ suc i = last_before p i l (sym (at_front p i l) ∙ h.newline) (λ k m n e. h.none k m (omega (arith, length-take p t)) (at_front p k n ∙ e)) in
      (omega (arith, e), omega arith)
