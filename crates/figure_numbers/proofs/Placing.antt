-- Lists put into others, element by element and one behind the other.
use mathlib.Core.Path.{◌≡◌, refl, sym, ap, ◌∙◌}
use mathlib.Core.List.{List, [], ◌∷◌, ◌++◌, map, append-nil}
use Prim.Native.Nat.{ℕ, ◌+◌, ◌≤◌, ◌<◌}
use native.Mathlib.Nat.{zero-add}
use native.Mathlib.Numerals.{add-one}
use native.Mathlib.Omega.{arith}
use lib.IntN.{ℤ, pos}
use lib.ListN.{length, drop_of_length-le, length-append, length-map, length-take, length-drop, get_or-map, get_or, take, drop, set}
use lib.Seq.{paste, paste-suc, take_all, take_at, drop-drop, drop-append-add, get_or-take, get_or-drop}
use Rattle.figures.specs.Figures.{below_sum}
use Rattle.figures.specs.declared.Figures.{Figures}
use Rattle.figure_numbers.specs.Numbers.{number_at, count_in, sum_in, below_in, figures_in, sum_number, totals_of, numbers_of}
use mir.Syntax.{w64}
use mir.Val.{SFits, to_z, of_z}
use mir.ValLaws.{to_z-of_z}

-- ---- element by element
module _ {A : Type 0} (d : A) (old xs new : List A) (at i : ℕ) (e : new ≡ paste old at xs i) where
  pub put_next : {x : A} → i < length xs → at + i < length old → x ≡ get_or xs i d → set new (at + i) x ≡ paste old at xs (i + 1)
  put_next f g h = rw (e, h, add-one) (paste-suc old at xs i d g f)

-- the same at the front
pub put_first : {A : Type 0} (d : A) (old xs new : List A) (i : ℕ) → new ≡ paste old 0 xs i → {x : A} → i < length xs → i < length old → x ≡ get_or xs i d → set new i x ≡ paste old 0 xs (i + 1)
put_first d old xs new i e {x} f g h = ap (λ (k : ℕ). set new k x) (sym (zero-add i)) ∙ put_next d old xs new 0 i e f (omega arith) h

-- all elements of a list, over all of another
pub paste_all : {A : Type 0} (old xs new : List A) (i : ℕ) → new ≡ paste old 0 xs i → length xs ≡ length old → length xs ≤ i → new ≡ xs
paste_all old xs new i e l h = e ∙ go
  where
    go : paste old 0 xs i ≡ xs
    go =
        let k : 0 + i ≡ i = omega arith in
        let a = take_all i xs h in
        let b : drop i old ≡ [] = drop_of_length-le old {i = i} (omega arith) in
        rw (k, a, b) (append-nil xs)

-- ---- one list behind the other
module _ {A : Type 0} (old front xs : List A) (at n : ℕ) (f : length front ≡ at) (l : length xs ≡ n) where
  pub put_behind : paste (front ++ drop at old) at xs n ≡ (front ++ xs) ++ drop (at + n) old
  put_behind =
      let a = take_at front (drop at old) at f in
      let b = take_all n xs (omega arith) in
      let c : drop (at + n) (front ++ drop at old) ≡ drop (at + n) old = rw (← f) (drop-append-add front (drop (length front) old) n ∙ drop-drop n (length front) old) in
      rw (a, b, c)

-- ---- numbers of 64 bits
-- a number that fits its bits is what they tell
pub kept : {z x : ℤ} → SFits w64 z → z ≡ x → to_z w64 (of_z w64 z) ≡ x
kept {z} f e = to_z-of_z w64 z f ∙ e

-- what is said of a number of a list
pub told_at : {X : Type 0} (f : ℤ → X) (l : List ℤ) (i : ℕ) → SFits w64 (get_or l i (pos 0)) → f (to_z w64 (of_z w64 (get_or l i (pos 0)))) ≡ f (get_or l i (pos 0))
told_at f l i h = ap f (kept h refl)

-- ---- counts
-- a count read, as the elements that are meant have it
pub count_next : (f : ℤ → ℕ) (l : List ℤ) (at n i : ℕ) → i < n → f (get_or l (at + i) (pos 0)) ≡ get_or (map f (take n (drop at l))) i (f (pos 0))
count_next f l at n i h =
    sym (get_or-map f (take n (drop at l)) i (pos 0) ∙ ap f (get_or-take n (drop at l) i (pos 0) h ∙ get_or-drop at l i (pos 0)))

pub counts_length : (f : ℤ → ℕ) (l : List ℤ) (at n : ℕ) → at + n ≤ length l → length (map f (take n (drop at l))) ≡ n
counts_length f l at n h = length-map (take n (drop at l)) f ∙ length-take n (drop at l) ∙ rw (length-drop at l) (omega arith)

pub told_count : (l : List ℕ) (i : ℕ) {z : ℤ} → SFits w64 z → z ≡ pos (get_or l i 0) → to_z w64 (of_z w64 z) ≡ get_or (map {A = ℕ} {B = ℤ} (λ x. pos x) l) i (pos 0)
told_count l i f e = kept f e ∙ sym (get_or-map (λ x. pos x) l i 0)

-- ---- all 64
totals_length : (g : Figures) → length (totals_of g) ≡ 8
unfolding totals_of
totals_length g = refl

module _ (g : Figures) (a : length g.answers ≡ 24) (w : length g.weekdays ≡ 7) (h : length g.hours ≡ 24) (old one two three four five totals : List ℤ) where
  pub figures_put : one ≡ paste old 0 (map pos g.answers) (length g.answers) → two ≡ paste one 24 (map pos g.weekdays) (length g.weekdays) → three ≡ paste two 31 (pos 0 ∷ []) 1
      → four ≡ paste three 32 (map pos g.hours) (length g.hours) → five ≡ paste four 56 totals (length totals) → totals ≡ totals_of g → five ≡ numbers_of g ++ drop 64 old
  unfolding numbers_of
  figures_put e f i j k t =
      let answers : List ℤ = map pos g.answers in
      let weekdays : List ℤ = map pos g.weekdays in
      let hours : List ℤ = map pos g.hours in
      let la : length answers ≡ 24 = length-map g.answers pos ∙ a in
      let lw : length weekdays ≡ 7 = length-map g.weekdays pos ∙ w in
      let lh : length hours ≡ 24 = length-map g.hours pos ∙ h in
      let p1 : one ≡ answers ++ drop 24 old = e ∙ rw a (put_behind old [] answers 0 24 refl la) in
      let p2 : two ≡ (answers ++ weekdays) ++ drop 31 old = f ∙ rw (p1, w) (put_behind old answers weekdays 24 7 la lw) in
      let l2 : length (answers ++ weekdays) ≡ 31 = length-append answers weekdays ∙ rw (la, lw) in
      let p3 : three ≡ ((answers ++ weekdays) ++ (pos 0 ∷ [])) ++ drop 32 old = i ∙ rw p2 (put_behind old (answers ++ weekdays) (pos 0 ∷ []) 31 1 l2 refl) in
      let l3 : length ((answers ++ weekdays) ++ (pos 0 ∷ [])) ≡ 32 = length-append (answers ++ weekdays) (pos 0 ∷ []) ∙ rw l2 in
      let p4 : four ≡ (((answers ++ weekdays) ++ (pos 0 ∷ [])) ++ hours) ++ drop 56 old = j ∙ rw (p3, h) (put_behind old ((answers ++ weekdays) ++ (pos 0 ∷ [])) hours 32 24 l3 lh) in
      let l4 : length (((answers ++ weekdays) ++ (pos 0 ∷ [])) ++ hours) ≡ 56 = length-append ((answers ++ weekdays) ++ (pos 0 ∷ [])) hours ∙ rw (l3, lh) in
      let lt : length totals ≡ 8 = ap length t ∙ totals_length g in
      let p5 : five ≡ ((((answers ++ weekdays) ++ (pos 0 ∷ [])) ++ hours) ++ totals) ++ drop 64 old = k ∙ rw (p4, lt) (put_behind old (((answers ++ weekdays) ++ (pos 0 ∷ [])) ++ hours) totals 56 8 l4 lt) in
      p5 ∙ rw t

-- the totals by the numbers that are told
pub totals_told : (g : Figures) {b s a r n : ℤ} → b ≡ below_sum g → s ≡ sum_number g.sum → a ≡ pos g.ages → r ≡ pos g.refused → n ≡ pos g.given
    → ◌≡◌ {A = List ℤ} (b ∷ s ∷ a ∷ r ∷ n ∷ pos 0 ∷ pos 0 ∷ pos 0 ∷ []) (totals_of g)
unfolding totals_of
totals_told g eb es ea er en = rw (eb, es, ea, er, en)

-- the figures by the counts and sums that were read
pub figures_read : (l : List ℤ) {answers weekdays hours : List ℕ} {below sum ages refused given : ℕ}
    → answers ≡ map count_in (take 24 l) → weekdays ≡ map count_in (take 7 (drop 24 l)) → hours ≡ map count_in (take 24 (drop 32 l))
    → below ≡ below_in (number_at l 56) → sum ≡ sum_in (number_at l 57) → ages ≡ count_in (number_at l 58) → refused ≡ count_in (number_at l 59) → given ≡ count_in (number_at l 60)
    → ◌≡◌ {A = Figures} (record { answers = answers; weekdays = weekdays; hours = hours; below = below; sum = sum; ages = ages; refused = refused; given = given }) (figures_in l)
unfolding figures_in
figures_read l ea ew eh eb es ec er eg = rw (ea, ew, eh, eb, es, ec, er, eg)
