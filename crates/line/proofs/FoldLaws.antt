-- A cut text, for any fold over its lines that decides once, whatever bytes continue a line. Assumes nothing.
use Rattle.std.specs.Prelude.{Err, None, Ok, Option, Result, Some}
use mathlib.Core.Path.{◌≡◌, refl, sym, ap, ◌∙◌}
use mathlib.Core.Bool.{Bool, true, false, not, cond, ◌||◌, not-not}
use mathlib.Core.List.{List, [], ◌∷◌}
use Prim.Native.Nat.{ℕ, suc, ◌≤◌, ◌<◌}
use native.Mathlib.Omega.{arith}
use native.Mathlib.Decide.{dec_le}
use borrow.Author.Tests.{eq-eqb, ne_eqb, le-leb, lt-leb, le-ltb, lt-ltb}
use lib.Dec.{eqb, leb, ltb}
use lib.ListN.{length, take}
use Rattle.text.proofs.Laws.{clash, pick_both}
use Rattle.fault.specs.Fault.{require}
use Rattle.fault.proofs.Readings.{never, same_value, and_then_law, required}
use Rattle.line.specs.Line.{Line, lines_of, not_above, last_end, cut_short, cut_place, ends_at, end_of_line}
use Rattle.line.specs.Fold.{Located, at_beginning, Refusal, cut, refusing, run, outcome}
use Rattle.line.proofs.LineLaws.{Ordered, lines_ordered, lines_cut, cut_short_law, none_above}

-- `keeps`, a decision stays; `fresh`, it is made at the line whose number it has
pub record Decides {F S D : Type 0} (step : S → Line → Result S (Located F)) (decision : S → Option D) (number_of : D → ℕ) : Type 0 where
  pub keeps : (s s' : S) (l : Line) (d : D) → decision s ≡ Some d → step s l ≡ Ok s' → decision s' ≡ Some d
  pub fresh : (s s' : S) (l : Line) (d : D) → decision s ≡ None → step s l ≡ Ok s' → decision s' ≡ Some d → number_of d ≡ l.number

-- what a line reads where it refuses nothing
not_refused : {F S : Type 0} (p : ℕ) (r : Result S (Located F)) (s : S) → refusing p r ≡ Ok s → r ≡ Ok s
not_refused p (Err x) s e = never e
not_refused p (Ok a) s e = cc

-- what a reading gives whose faults are told at the beginning
pub beginning_value : {F S : Type 0} (r : Result S F) (s : S) → at_beginning r ≡ Ok s → r ≡ Ok s
beginning_value (Err c) s e = never e
beginning_value (Ok a) s e = cc

-- the first line of a run that ends well
first_step : {F S : Type 0} (step : S → Line → Result S (Located F)) (l : Line) (ls : List Line) (s s' : S) → run step (l ∷ ls) s ≡ Ok s' → (s₁ : S) × (step s l ≡ Ok s₁) × (run step ls s₁ ≡ Ok s')
unfolding run
first_step step l ls s s' e = let x = and_then_law (refusing l.begin (step s l)) _ s' e in (x.0, not_refused l.begin (step s l) x.0 x.1, x.2)

-- what every line keeps, a run keeps
pub run_keeps : {F S : Type 0} (step : S → Line → Result S (Located F)) (P : S → Type 0) → ((s s' : S) (l : Line) → P s → step s l ≡ Ok s' → P s') → (ls : List Line) (s s' : S) → P s → run step ls s ≡ Ok s' → P s'
unfolding run
run_keeps step P k [] s s' p e = rw (← same_value e) p
run_keeps step P k (l ∷ ls) s s' p e = let x = first_step step l ls s s' e in run_keeps step P k ls x.0 s' (k s x.0 l p x.1) x.2

-- a text that is decided was run through
pub run_through : {F S D : Type 0} (continues : ℕ → Bool) (step : S → Line → Result S (Located F)) (decision : S → Option D) (s : S) (t : List ℕ) (o : Option D) → outcome continues step decision s t ≡ Ok o → (s' : S) × (run step (lines_of continues t) s ≡ Ok s') × (decision s' ≡ o)
unfolding outcome
run_through continues step decision s t o e =
    let x = and_then_law (run step (lines_of continues t) s) _ o e in
    let y = required (not (cut_short continues t)) (cut (last_end 0 (lines_of continues t))) (Ok (decision x.0)) o x.2 in
    (x.0, x.1, same_value y.1)

-- what is decided up to n, where o is decided by all lines
abbrev pub decided_up_to : {D : Type 0} → (D → ℕ) → List Line → ℕ → Option D → Option D
decided_up_to number_of ls n None = None
decided_up_to number_of ls n (Some d) = cond (leb (end_of_line (number_of d) ls) n) (Some d) None

module _ {F S D : Type 0} (step : S → Line → Result S (Located F)) (decision : S → Option D) (number_of : D → ℕ) (w : Decides step decision number_of) where
  stays : (ls : List Line) (s s' : S) (d : D) → decision s ≡ Some d → run step ls s ≡ Ok s' → decision s' ≡ Some d
  stays ls s s' d = run_keeps step (λ x. decision x ≡ Some d) (λ x x' l v e. w.keeps x x' l d v e) ls s s'

  -- a decision that is made in lines has the number of one of them
  made_in : (e k : ℕ) (ls : List Line) (s s' : S) (d : D) → Ordered e k ls → decision s ≡ None → run step ls s ≡ Ok s' → decision s' ≡ Some d → (k ≤ number_of d) × (e < end_of_line (number_of d) ls)
  unfolding run end_of_line
  made_in e k [] s s' d o v r u = clash cc
  made_in e k (l ∷ ls) s s' d o v r u =
      let x = first_step step l ls s s' r in
      by x.0 x.1 x.2 (decision x.0) refl (λ h. made_in l.end (suc l.number) ls x.0 s' d o.2 h x.2 u)
    where
      by : (s₁ : S) → step s l ≡ Ok s₁ → run step ls s₁ ≡ Ok s' → (y : Option D) → decision s₁ ≡ y → (decision s₁ ≡ None → (suc l.number ≤ number_of d) × (l.end < end_of_line (number_of d) ls)) → (k ≤ number_of d) × (e < cond (eqb l.number (number_of d)) l.end (end_of_line (number_of d) ls))
      by s₁ p q None h rec =
          let i = rec h in
          let n : l.number ≡ number_of d → ⊥ = λ z. omega (arith, i.0, z) in
          (omega (arith, i.0, o.1), rw (ne_eqb l.number (number_of d) n) (omega (arith, i.1, o.0)))
      by s₁ p q (Some d₁) h rec =
          let z : d₁ ≡ d = (let m = stays ls s₁ s' d₁ h q in cc) in
          let f = w.fresh s s₁ l d₁ v p h in
          let g : l.number ≡ number_of d = sym f ∙ ap number_of z in
          (omega (arith, g, o.1), rw (eq-eqb l.number (number_of d) g) o.0)

  -- the run over the lines whose ends are not above n
  record CutRun (n : ℕ) (ls : List Line) (s s' : S) : Type 0 where
    state : S
    runs : run step (not_above n ls) s ≡ Ok state
    told : decision s ≡ None → decision state ≡ decided_up_to number_of ls n (decision s')

  -- stopped before the line l
  stopped : (n k : ℕ) (l : Line) (ls : List Line) (s s' : S) → Ordered n k (l ∷ ls) → run step (l ∷ ls) s ≡ Ok s' → CutRun n (l ∷ ls) s s'
  unfolding run
  stopped n k l ls s s' o r = record {
    state = s;
    runs = rw (none_above n n k (l ∷ ls) (omega arith) o);
    told = λ v. by v (decision s') refl;
  }
    where
      by : decision s ≡ None → (y : Option D) → decision s' ≡ y → decision s ≡ decided_up_to number_of (l ∷ ls) n y
      by v None h = v
      by v (Some d) h = v ∙ sym (rw (lt-leb (end_of_line (number_of d) (l ∷ ls)) n (made_in n k (l ∷ ls) s s' d o v r h).1))

  -- gone past the line l
  passed : (n b k : ℕ) (l : Line) (ls : List Line) (s s₁ s' : S) → Ordered b k (l ∷ ls) → l.end ≤ n → step s l ≡ Ok s₁ → run step ls s₁ ≡ Ok s' → CutRun n ls s₁ s' → CutRun n (l ∷ ls) s s'
  unfolding run end_of_line
  passed n b k l ls s s₁ s' o h p q c = record {
    state = c.state;
    runs = rw (le-leb l.end n h, p) c.runs;
    told = λ v. by v (decision s₁) refl;
  }
    where
      same : decision s₁ ≡ None → (y : Option D) → decision s' ≡ y → decided_up_to number_of ls n y ≡ decided_up_to number_of (l ∷ ls) n y
      same u None g = refl
      same u (Some d) g =
          let i = made_in l.end (suc l.number) ls s₁ s' d o.2 u q g in
          let m : l.number ≡ number_of d → ⊥ = λ z. omega (arith, i.0, z) in
          rw (ne_eqb l.number (number_of d) m)

      by : decision s ≡ None → (y : Option D) → decision s₁ ≡ y → decision c.state ≡ decided_up_to number_of (l ∷ ls) n (decision s')
      by v None u = c.told u ∙ same u (decision s') refl
      by v (Some d) u =
          let f = sym (w.fresh s s₁ l d v p u) in
          stays (not_above n ls) s₁ c.state d u c.runs ∙ sym (rw (stays ls s₁ s' d u q, eq-eqb l.number (number_of d) f, le-leb l.end n h))

  cut_run : (n b k : ℕ) (ls : List Line) (s s' : S) → Ordered b k ls → run step ls s ≡ Ok s' → CutRun n ls s s'
  unfolding run
  cut_run n b k [] s s' o r = record { state = s; runs = refl; told = λ v. v ∙ sym (rw (← same_value r, v)) }
  cut_run n b k (l ∷ ls) s s' o r =
      let x = first_step step l ls s s' r in
      elim (dec_le l.end n) [
        | yes h ↦ passed n b k l ls s x.0 s' o h x.1 x.2 (cut_run n l.end (suc l.number) ls x.0 s' o.2 x.2)
        | no h ↦ stopped n k l ls s s' (omega arith, o.1, o.2) r
      ]

  -- a text that gives o, cut after n bytes: refused where no line ends at n, else what is decided up to there
  cuts : (continues : ℕ → Bool) (s : S) → decision s ≡ None → (t : List ℕ) (n : ℕ) → n ≤ length t → (o : Option D) → outcome continues step decision s t ≡ Ok o → outcome continues step decision s (take n t) ≡ require (ends_at continues t n) (cut (cut_place continues t n)) (Ok (decided_up_to number_of (lines_of continues t) n o))
  unfolding outcome cut_place
  cuts continues s v t n l o e =
      let x = run_through continues step decision s t o e in
      let c = cut_run n 0 1 (lines_of continues t) s x.0 (lines_ordered continues t) x.1 in
      rw (lines_cut continues n t, cut_short_law continues n t l, c.runs, c.told v, x.2, not-not (ends_at continues t n))

  -- the same, told as an answer: `nothing` says that no line decides, `line_of` which line does
  module _ {A : Type 0} (told : Result (Option D) (Refusal F) → A) (nothing : A → Bool) (line_of : A → ℕ) (something : (d : D) → nothing (told (Ok (Some d))) ≡ false) (line_told_law : (d : D) → line_of (told (Ok (Some d))) ≡ number_of d) where
    up_to : (ls : List Line) (n : ℕ) (o : Option D) → told (Ok (decided_up_to number_of ls n o)) ≡ cond (nothing (told (Ok o)) || ltb n (end_of_line (line_of (told (Ok o))) ls)) (told (Ok None)) (told (Ok o))
    up_to ls n None = sym (pick_both (nothing (told (Ok None)) || ltb n (end_of_line (line_of (told (Ok None))) ls)) (told (Ok None)))
    up_to ls n (Some d) = rw (something d, line_told_law d) (elim (dec_le (end_of_line (number_of d) ls) n) [
      | yes h ↦ rw (le-leb (end_of_line (number_of d) ls) n h, le-ltb n (end_of_line (number_of d) ls) h)
      | no h ↦ let k : n < end_of_line (number_of d) ls = omega arith in rw (lt-leb (end_of_line (number_of d) ls) n k, lt-ltb n (end_of_line (number_of d) ls) k)
    ])

    pub cuts_told : (continues : ℕ → Bool) (s : S) → decision s ≡ None → (t : List ℕ) (n : ℕ) → n ≤ length t → (o : Option D) → outcome continues step decision s t ≡ Ok o → told (outcome continues step decision s (take n t)) ≡ cond (ends_at continues t n) (cond (nothing (told (Ok o)) || ltb n (end_of_line (line_of (told (Ok o))) (lines_of continues t))) (told (Ok None)) (told (Ok o))) (told (Err (cut (cut_place continues t n))))
    cuts_told continues s v t n l o e = ap told (cuts continues s v t n l o e) ∙ by (ends_at continues t n)
      where
        by : (x : Bool) → told (require x (cut (cut_place continues t n)) (Ok (decided_up_to number_of (lines_of continues t) n o))) ≡ cond x (cond (nothing (told (Ok o)) || ltb n (end_of_line (line_of (told (Ok o))) (lines_of continues t))) (told (Ok None)) (told (Ok o))) (told (Err (cut (cut_place continues t n))))
        by true = up_to (lines_of continues t) n o
        by false = refl
