-- The fields that a buffer and ends tell, by their number, and the kind of line that they make.
use mathlib.Core.Path.{◌≡◌, refl, sym, ap, ◌∙◌}
use mathlib.Core.Bool.{true, false, cond}
use mathlib.Core.List.{List, [], ◌∷◌}
use Prim.Native.Nat.{ℕ, zero, suc, ◌-◌, ◌≤◌, ◌<◌, min}
use native.Mathlib.Omega.{arith}
use native.Mathlib.Decide.{dec_le}
use borrow.Author.Tests.{le-leb}
use lib.ListN.{length, take, drop, get_or, length-drop, drop_of_length-le, get_or-eq_default}
use lib.Seq.{take-nil}
use Rattle.text.specs.Slice.{head_is}
use Rattle.text.proofs.Laws.{next_of, take_min}
use Rattle.line.specs.declared.kind.LineKind.TheVariants.{NoField, Colon, Entry}
use Rattle.line.specs.Kind.{kind_of_line}
use Rattle.line.specs.Contract.{fields_at, fields_in, field_start}
use Rattle.line.proofs.JoinedLaws.{begins_head}

-- ---- where a field begins
pub start_within : (ends : List ℕ) (i : ℕ) → i ≤ 64 → get_or (0 ∷ ends) i 0 ≡ field_start ends i
unfolding field_start
start_within ends i h = rw (le-leb i 64 h)

-- ---- a field by its number
at_none : (t : List ℕ) (start n i : ℕ) → get_or (fields_at t start [] n) i [] ≡ []
unfolding fields_at
at_none t start zero i = refl
at_none t start (suc n) zero = refl
at_none t start (suc n) (suc i) = at_none t start n i

at_number : (t : List ℕ) (start : ℕ) (es : List ℕ) (n i : ℕ) → i < n → get_or (fields_at t start es n) i [] ≡ take (get_or es i 0 - get_or (start ∷ es) i 0) (drop (get_or (start ∷ es) i 0) t)
unfolding fields_at
at_number t start es zero i h = absurd (omega arith)
at_number t start [] (suc n) zero h = let z : 0 - start ≡ 0 = omega arith in rw z
at_number t start [] (suc n) (suc i) h = at_none t start n i
at_number t start (e ∷ es) (suc n) zero h = refl
at_number t start (e ∷ es) (suc n) (suc i) h = at_number t e es n i (omega arith)

at_count : (t : List ℕ) (start : ℕ) (es : List ℕ) (n : ℕ) → length (fields_at t start es n) ≡ n
unfolding fields_at
at_count t start es zero = refl
at_count t start [] (suc n) = ap suc (at_count t start [] n)
at_count t start (e ∷ es) (suc n) = ap suc (at_count t e es n)

-- a part of the text whose bounds were made to stand in it
clamped : (t : List ℕ) (s e s' e' : ℕ) → e' ≡ min e (length t) → s' ≡ min s e' → take (e' - s') (drop s' t) ≡ take (e - s) (drop s t)
clamped t s e s' e' f g = elim (dec_le e' s) [ yes h ↦ none h | no h ↦ some (omega arith) ]
  where
    some : s < e' → take (e' - s') (drop s' t) ≡ take (e - s) (drop s t)
    some h =
        let y : s' ≡ s = omega arith in
        let z : e' - s ≡ min (e - s) (length t - s) = omega arith in
        let l : length (drop s t) ≤ length t - s = omega (arith, length-drop s t) in
        rw (y, z) (take_min (e - s) (length t - s) (drop s t) l)

    none : e' ≤ s → take (e' - s') (drop s' t) ≡ take (e - s) (drop s t)
    none h = let z : e' - s' ≡ 0 = omega arith in rw z (elim (dec_le e s) [ yes k ↦ let y : e - s ≡ 0 = omega arith in rw y | no k ↦ let l : length t ≤ s = omega arith in rw (drop_of_length-le t l, take-nil {A = ℕ} (e - s)) ])

module _ (text ends : List ℕ) (count : ℕ) where
  pub fields_count : length (fields_in text ends count) ≡ min count 64
  unfolding fields_in
  fields_count = at_count text 0 ends (min count 64)

  module _ (i : ℕ) where
    pub field_past : min count 64 ≤ i → [] ≡ get_or (fields_in text ends count) i []
    field_past h = let k : length (fields_in text ends count) ≤ i = omega (arith, fields_count) in sym (get_or-eq_default (fields_in text ends count) [] k)

    pub field_here : (s e : ℕ) → i < min count 64 → e ≡ min (get_or ends i 0) (length text) → s ≡ min (get_or (0 ∷ ends) i 0) e → take (e - s) (drop s text) ≡ get_or (fields_in text ends count) i []
    unfolding fields_in
    field_here s e h f g = clamped text (get_or (0 ∷ ends) i 0) (get_or ends i 0) s e f g ∙ sym (at_number text 0 ends (min count 64) i h)

    -- its bounds as they are told
    pub field_part : i < min count 64 → get_or (fields_in text ends count) i [] ≡ take (get_or ends i 0 - get_or (0 ∷ ends) i 0) (drop (get_or (0 ∷ ends) i 0) text)
    unfolding fields_in
    field_part h = at_number text 0 ends (min count 64) i h

    -- ---- the kind of line
    pub kind_none : min count 64 ≤ i → kind_of_line (drop i (fields_in text ends count)) ≡ NoField
    unfolding kind_of_line
    kind_none h = let k : length (fields_in text ends count) ≤ i = omega (arith, fields_count) in rw (drop_of_length-le (fields_in text ends count) k)

    kind_by : i < min count 64 → kind_of_line (drop i (fields_in text ends count)) ≡ cond (head_is 58 (get_or (fields_in text ends count) i [])) Colon Entry
    unfolding kind_of_line
    kind_by h = let l : i < length (fields_in text ends count) = omega (arith, fields_count) in rw (next_of [] (fields_in text ends count) i l, begins_head 58 (get_or (fields_in text ends count) i []))

    pub kind_colon : i < min count 64 → head_is 58 (get_or (fields_in text ends count) i []) ≡ true → kind_of_line (drop i (fields_in text ends count)) ≡ Colon
    kind_colon h e = kind_by h ∙ rw e

    pub kind_entry : i < min count 64 → head_is 58 (get_or (fields_in text ends count) i []) ≡ false → kind_of_line (drop i (fields_in text ends count)) ≡ Entry
    kind_entry h e = kind_by h ∙ rw e
