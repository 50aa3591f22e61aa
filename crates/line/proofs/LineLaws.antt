-- The lines of a text, and of a text that is cut. Assumes nothing.
use Rattle.std.specs.List.{list_any}
use mathlib.Core.Path.{◌≡◌, refl, sym, ap, ◌∙◌}
use mathlib.Core.Bool.{Bool, true, false, not, cond, ◌&&◌, ◌||◌}
use mathlib.Core.List.{List, [], ◌∷◌}
use Prim.Native.Nat.{ℕ, zero, suc, ◌+◌, ◌-◌, ◌≤◌, ◌<◌}
use native.Mathlib.Omega.{arith}
use native.Mathlib.Decide.{dec_le}
use borrow.Author.Tests.{le-leb, lt-leb, le-ltb, lt-ltb, eqb-true, eqb-false}
use lib.Dec.{eqb, ltb}
use lib.ListN.{length, take, length-take}
use Rattle.text.specs.Lists.{with_byte}
use Rattle.text.proofs.Laws.{clash, either_false}
use Rattle.line.specs.Line.{Line, ends_line, ended_lines, last_ends, cut_short, newlines, placed, lines_of, not_above, last_end, cut_place, ends_at}

-- ---- places and numbers rise
-- each line ends above e, has a number not below k, and the next one follows both
abbrev pub Ordered : ℕ → ℕ → List Line → Type 0
Ordered e k [] = Unit {0}
Ordered e k (l ∷ ls) = (e < l.end) × (k ≤ l.number) × Ordered l.end (suc l.number) ls

ordered_le : (e j k : ℕ) (ls : List Line) → j ≤ k → Ordered e k ls → Ordered e j ls
ordered_le e j k [] h o = tt
ordered_le e j k (l ∷ ls) h o = (o.0, omega (arith, o.1), o.2)

ordered : (at k : ℕ) (ss : List (List ℕ)) → Ordered at k (placed at k ss)
unfolding placed
ordered at k [] = tt
ordered at k (s ∷ ss) =
    let e = at + length s + 1 in let n = k + newlines s + 1 in
    (omega arith, omega arith, ordered_le e (suc k) n (placed e n ss) (omega arith) (ordered e n ss))

pub lines_ordered : (continues : ℕ → Bool) (t : List ℕ) → Ordered 0 1 (lines_of continues t)
lines_ordered continues t = ordered 0 1 (ended_lines continues false t)

-- ---- the lines of a cut text are those whose ends are not above the cut
-- the lines that fit, each with its newline, into n bytes
abbrev fitting : ℕ → List (List ℕ) → List (List ℕ)
fitting n [] = []
fitting n (s ∷ ss) = cond (ltb (length s) n) (s ∷ fitting (n - (length s + 1)) ss) []

fitting_none : (ss : List (List ℕ)) → fitting 0 ss ≡ []
fitting_none [] = refl
fitting_none (s ∷ ss) = rw (le-ltb (length s) 0 (omega arith))

fitting_with : (n b : ℕ) (x : Bool) (ss : List (List ℕ)) → with_byte x b (fitting n ss) ≡ fitting (suc n) (with_byte x b ss)
fitting_with n b true ss = let z : suc n - (0 + 1) ≡ n = omega arith in rw (lt-ltb 0 (suc n) (omega arith), z)
fitting_with n b false [] = refl
fitting_with n b false (s ∷ ss) = elim (dec_le n (length s)) [
  | yes h ↦ rw (le-ltb (length s) n h, le-ltb (suc (length s)) (suc n) (omega arith))
  | no h ↦
      let k : length s < n = omega arith in
      let z : suc n - (suc (length s) + 1) ≡ n - (length s + 1) = omega arith in
      rw (lt-ltb (length s) n k, lt-ltb (suc (length s)) (suc n) (omega arith), z)
]

ended_cut : (continues : ℕ → Bool) (n : ℕ) (after : Bool) (s : List ℕ) → ended_lines continues after (take n s) ≡ fitting n (ended_lines continues after s)
unfolding ended_lines
ended_cut continues zero after s = sym (fitting_none (ended_lines continues after s))
ended_cut continues (suc n) after [] = refl
ended_cut continues (suc n) after (b ∷ s) = ap (with_byte (ends_line after b) b) (ended_cut continues n (continues b) s) ∙ fitting_with n b (ends_line after b) (ended_lines continues (continues b) s)

pub none_above : (n e k : ℕ) (ls : List Line) → n ≤ e → Ordered e k ls → not_above n ls ≡ []
none_above n e k [] h o = refl
none_above n e k (l ∷ ls) h o =
    let g : n < l.end = omega (arith, o.0) in
    rw (lt-leb l.end n g) (none_above n l.end (suc l.number) ls (omega arith) o.2)

placed_fitting : (n at k : ℕ) (ss : List (List ℕ)) → placed at k (fitting n ss) ≡ not_above (at + n) (placed at k ss)
unfolding placed
placed_fitting n at k [] = refl
placed_fitting n at k (s ∷ ss) = elim (dec_le n (length s)) [
  | yes h ↦
      let g : at + n < at + length s + 1 = omega arith in
      rw (le-ltb (length s) n h, lt-leb (at + length s + 1) (at + n) g)
      (sym (none_above (at + n) (at + length s + 1) (k + newlines s + 1) (placed (at + length s + 1) (k + newlines s + 1) ss) (omega arith) (ordered (at + length s + 1) (k + newlines s + 1) ss)))
  | no h ↦
      let g : at + length s + 1 ≤ at + n = omega arith in
      let z : at + length s + 1 + (n - (length s + 1)) ≡ at + n = omega arith in
      let i = rw z at (placed_fitting (n - (length s + 1)) (at + length s + 1) (k + newlines s + 1) ss) in
      rw (lt-ltb (length s) n (omega arith), le-leb (at + length s + 1) (at + n) g, i)
]

pub lines_cut : (continues : ℕ → Bool) (n : ℕ) (t : List ℕ) → lines_of continues (take n t) ≡ not_above n (lines_of continues t)
lines_cut continues n t = let z : 0 + n ≡ n = omega arith in ap (placed 0 1) (ended_cut continues n false t) ∙ (rw z at (placed_fitting n 0 1 (ended_lines continues false t)))

-- ---- where a line ends at the cut
module _ (n : ℕ) where
  -- some line ends at n
  abbrev some_end : List Line → Bool
  some_end ls = list_any (λ l. eqb l.end n) ls

  at_end_law : (b k : ℕ) (ls : List Line) → Ordered b k ls → some_end ls ≡ true → (b < n) × (last_end b (not_above n ls) ≡ n)
  at_end_law b k [] o e = clash cc
  at_end_law b k (l ∷ ls) o e = by (eqb l.end n) refl (λ f. at_end_law l.end (suc l.number) ls o.2 f) e
    where
      by : (x : Bool) → eqb l.end n ≡ x → (some_end ls ≡ true → (l.end < n) × (last_end l.end (not_above n ls) ≡ n)) → x || some_end ls ≡ true → (b < n) × (last_end b (not_above n (l ∷ ls)) ≡ n)
      by true x rec f =
          let z = eqb-true l.end n x in
          (omega (arith, o.0), rw (le-leb l.end n (omega arith), none_above n l.end (suc l.number) ls (omega arith) o.2) z)
      by false x rec f =
          let i = rec f in
          (omega (arith, o.0, i.0), rw (le-leb l.end n (omega (arith, i.0))) i.1)

  not_at_end : (b k : ℕ) (ls : List Line) → Ordered b k ls → b < n → some_end ls ≡ false → last_end b (not_above n ls) < n
  not_at_end b k [] o h e = h
  not_at_end b k (l ∷ ls) o h e = elim (dec_le l.end n) [
    | yes g ↦
        let d = either_false (eqb l.end n) (some_end ls) e in
        let m = eqb-false l.end n d.0 in
        rw (le-leb l.end n g) (not_at_end l.end (suc l.number) ls o.2 (omega arith) d.1)
    | no g ↦
        let m : n < l.end = omega arith in
        rw (lt-leb l.end n m, none_above n l.end (suc l.number) ls (omega arith) o.2) h
  ]

  module _ (continues : ℕ → Bool) (t : List ℕ) where
    ends_at_law : ends_at continues t n ≡ true → cut_place continues t n ≡ n
    unfolding ends_at cut_place
    ends_at_law e = by (eqb n 0) refl e
      where
        by : (x : Bool) → eqb n 0 ≡ x → x || some_end (lines_of continues t) ≡ true → last_end 0 (not_above n (lines_of continues t)) ≡ n
        by true x f = let z = eqb-true n 0 x in rw (none_above n 0 1 (lines_of continues t) (omega arith) (lines_ordered continues t)) (sym z)
        by false x f = (at_end_law 0 1 (lines_of continues t) (lines_ordered continues t) f).1

    ends_not_at : ends_at continues t n ≡ false → cut_place continues t n < n
    unfolding ends_at cut_place
    ends_not_at e = let d = either_false (eqb n 0) (some_end (lines_of continues t)) e in let z = eqb-false n 0 d.0 in not_at_end 0 1 (lines_of continues t) (lines_ordered continues t) (omega arith) d.1

-- ---- whether a text is cut short, by where its last line ends
-- the bytes that lines take, each with its newline
abbrev span : List (List ℕ) → ℕ
span [] = 0
span (s ∷ ss) = length s + 1 + span ss

last_placed : (at k : ℕ) (ss : List (List ℕ)) → last_end at (placed at k ss) ≡ at + span ss
unfolding placed
last_placed at k [] = omega arith
last_placed at k (s ∷ ss) = last_placed (at + length s + 1) (k + newlines s + 1) ss ∙ omega arith

span_some : (x : Bool) (b : ℕ) (ss : List (List ℕ)) → 0 < span ss → span (with_byte x b ss) ≡ suc (span ss)
span_some true b ss h = omega arith
span_some false b [] h = absurd (omega arith)
span_some false b (s ∷ ss) h = omega arith

span_most : (x : Bool) (b : ℕ) (ss : List (List ℕ)) → span (with_byte x b ss) ≤ suc (span ss)
span_most true b ss = omega arith
span_most false b [] = omega arith
span_most false b (s ∷ ss) = omega arith

ends_whole : (continues : ℕ → Bool) (after : Bool) (s : List ℕ) → last_ends continues after s ≡ true → span (ended_lines continues after s) ≡ length s
unfolding last_ends ended_lines
ends_whole continues after [] e = clash cc
ends_whole continues after (b ∷ []) e = rw e
ends_whole continues after (b ∷ c ∷ s) e =
    let i = ends_whole continues (continues b) (c ∷ s) e in
    let h : 0 < span (ended_lines continues (continues b) (c ∷ s)) = omega arith in
    span_some (ends_line after b) b (ended_lines continues (continues b) (c ∷ s)) h ∙ ap suc i

ends_short : (continues : ℕ → Bool) (after : Bool) (b : ℕ) (s : List ℕ) → last_ends continues after (b ∷ s) ≡ false → span (ended_lines continues after (b ∷ s)) < length (b ∷ s)
unfolding last_ends ended_lines
ends_short continues after b [] e = rw e (omega arith)
ends_short continues after b (c ∷ s) e =
    let i = ends_short continues (continues b) c s e in
    let h = span_most (ends_line after b) b (ended_lines continues (continues b) (c ∷ s)) in
    omega arith

pub short_text : (continues : ℕ → Bool) (t : List ℕ) → cut_short continues t ≡ ltb (last_end 0 (lines_of continues t)) (length t)
unfolding cut_short last_ends ended_lines placed
short_text continues [] = refl
short_text continues (b ∷ s) = rw (last_placed 0 1 (ended_lines continues false (b ∷ s))) (by (last_ends continues false (b ∷ s)) refl)
  where
    by : (x : Bool) → last_ends continues false (b ∷ s) ≡ x → not x && true ≡ ltb (0 + span (ended_lines continues false (b ∷ s))) (length (b ∷ s))
    by true x =
        let h : length (b ∷ s) ≤ 0 + span (ended_lines continues false (b ∷ s)) = omega (arith, ends_whole continues false (b ∷ s) x) in
        sym (le-ltb (0 + span (ended_lines continues false (b ∷ s))) (length (b ∷ s)) h)
    by false x =
        let h : 0 + span (ended_lines continues false (b ∷ s)) < length (b ∷ s) = omega (arith, ends_short continues false b s x) in
        sym (lt-ltb (0 + span (ended_lines continues false (b ∷ s))) (length (b ∷ s)) h)

-- a cut leaves a text that is cut short exactly where it falls inside a line
pub cut_short_law : (continues : ℕ → Bool) (n : ℕ) (t : List ℕ) → n ≤ length t → cut_short continues (take n t) ≡ not (ends_at continues t n)
unfolding cut_place
cut_short_law continues n t h =
    let l : length (take n t) ≡ n = length-take n t ∙ omega arith in
    short_text continues (take n t) ∙ rw (lines_cut continues n t, l) (by (ends_at continues t n) refl)
  where
    by : (x : Bool) → ends_at continues t n ≡ x → ltb (last_end 0 (not_above n (lines_of continues t))) n ≡ not x
    by true x = let z = ends_at_law n continues t x in le-ltb _ n (omega arith)
    by false x = lt-ltb _ n (ends_not_at n continues t x)
