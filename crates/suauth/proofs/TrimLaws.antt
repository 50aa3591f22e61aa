-- The blanks at a line's two ends.
use Rattle.std.proofs.Common.{◌≡◌, ℕ, zero, suc, ◌+◌, ◌-◌, ◌<◌, List, [], ◌∷◌, length, take, drop, refl, sym, arith}
use Rattle.text.proofs.Laws.{part_rest}
use Rattle.suauth.specs.Rule.{past_blanks, kept_before, before_blanks}
use Rattle.suauth.specs.Contract.{AllBlank, FirstOther, LastOther}

all_past : (s : List ℕ) → AllBlank s → past_blanks s ≡ []
unfolding past_blanks
all_past [] h = refl
all_past (b ∷ s) h = rw (h 0 (omega arith)) (all_past s (λ k l. h (suc k) (omega arith)))

first_past : (s : List ℕ) (i : ℕ) → FirstOther s i → past_blanks s ≡ drop i s
unfolding past_blanks
first_past [] i f = absurd (omega arith)
first_past (b ∷ s) zero f = rw f.other
first_past (b ∷ s) (suc i) f = rw (f.blanks 0 (omega arith)) (first_past s i (record { inside = omega arith; other = f.other; blanks = λ k l. f.blanks (suc k) (omega arith) }))

all_before : (s : List ℕ) → AllBlank s → before_blanks s ≡ []
unfolding before_blanks
all_before [] h = refl
all_before (b ∷ s) h = rw (all_before s (λ k l. h (suc k) (omega arith)), h 0 (omega arith))

last_before : (s : List ℕ) (i : ℕ) → LastOther s i → before_blanks s ≡ take (suc i) s
unfolding before_blanks
last_before [] i f = absurd (omega arith)
last_before (b ∷ s) zero f = rw (all_before s (λ k l. f.blanks (suc k) (omega arith) (omega arith)), f.other)
last_before (b ∷ []) (suc i) f = absurd (omega arith)
last_before (b ∷ x ∷ s) (suc i) f = rw (last_before (x ∷ s) i (record { inside = omega arith; other = f.other; blanks = λ k l m. f.blanks (suc k) (omega arith) (omega arith) }))

-- ---- what is left of a line
pub trim_none : (s : List ℕ) → AllBlank s → [] ≡ before_blanks (past_blanks s)
unfolding before_blanks
trim_none s h = rw (all_past s h)

module _ (s : List ℕ) (i : ℕ) (f : FirstOther s i) where
  pub trim_blank : AllBlank (take (length s - i) (drop i s)) → [] ≡ before_blanks (past_blanks s)
  trim_blank h = rw (first_past s i f) (sym (all_before (drop i s) (rw (part_rest i s) at h)))

  pub trim_some : (j : ℕ) → LastOther (take (length s - i) (drop i s)) j → take (j + 1) (take (length s - i) (drop i s)) ≡ before_blanks (past_blanks s)
  trim_some j h = let g : LastOther (drop i s) j = rw (part_rest i s) at h in let e : j + 1 ≡ suc j = omega arith in rw (part_rest i s, first_past s i f, e) (sym (last_before (drop i s) j g))
