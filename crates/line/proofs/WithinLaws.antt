-- The lines of a text of n bytes have their numbers, their bytes and their ends within n, and so does what a fold over them tells. Assumes nothing.
use Rattle.std.specs.Prelude.{Err, Ok, Option, Result, Some}
use mathlib.Core.Path.{◌≡◌, refl, sym, ap, ◌∙◌}
use mathlib.Core.Bool.{Bool, true, false, not, cond}
use mathlib.Core.List.{List, [], ◌∷◌, ◌++◌}
use Prim.Native.Nat.{ℕ, suc, ◌+◌, ◌≤◌}
use native.Mathlib.Omega.{arith}
use borrow.Author.Tests.{leb-true}
use lib.Dec.{leb}
use lib.ListN.{length}
use lib.Seq.{take_all}
use Rattle.text.specs.Bytes.{is}
use Rattle.text.specs.Lists.{count}
use Rattle.text.proofs.Laws.{clash}
use Rattle.fault.specs.Fault.{and_then, require}
use Rattle.fault.proofs.Readings.{never, Each}
use Rattle.line.specs.Line.{Line, placed, ended_lines, newlines, lines_of, not_above, last_end, cut_short}
use Rattle.line.specs.Fold.{Located, of_line, at_beginning, Refusal, faulty, cut, refusing, run, outcome}
use Rattle.line.specs.Refused.{accepted, refused_from, refused_byte}
use Rattle.line.proofs.LineLaws.{lines_cut}

-- ---- the lines
count_few : (f : ℕ → Bool) (s : List ℕ) → count f s ≤ length s
unfolding count
count_few f [] = omega arith
count_few f (b ∷ s) = by (f b) (count_few f s)
  where
    by : (x : Bool) → count f s ≤ length s → cond x (suc (count f s)) (count f s) ≤ suc (length s)
    by true h = omega arith
    by false h = omega arith

-- a line has its number, its bytes and its end within n
pub record LineWithin (n : ℕ) (l : Line) : Type 0 where
  pub number : l.number ≤ n
  pub bytes : l.begin + length l.bytes ≤ n
  pub end : l.end ≤ n

-- a line's bytes stand before its end, and its number is at most its end, since every line before it has a byte
abbrev Numbered : Line → Type 0
Numbered l = (l.begin + length l.bytes ≤ l.end) × (l.number ≤ l.end)

numbered : (at k : ℕ) (ss : List (List ℕ)) → k ≤ at + 1 → Each Numbered (placed at k ss)
unfolding placed
numbered at k [] h = tt
numbered at k (s ∷ ss) h = ((omega arith, omega arith), numbered (at + length s + 1) (k + newlines s + 1) ss (omega (arith, count_few (is "\n") s)))

ends_within : (n : ℕ) (ls : List Line) → Each Numbered ls → Each (LineWithin n) (not_above n ls)
ends_within n [] h = tt
ends_within n (l ∷ ls) h = by (leb l.end n) refl (ends_within n ls h.1)
  where
    by : (x : Bool) → leb l.end n ≡ x → Each (LineWithin n) (not_above n ls) → Each (LineWithin n) (cond x (l ∷ []) [] ++ not_above n ls)
    by true e k = let m = leb-true l.end n e in (record { number = omega (arith, h.0.1); bytes = omega (arith, h.0.0); end = m }, k)
    by false e k = k

lines_within : (continues : ℕ → Bool) (t : List ℕ) → Each (LineWithin (length t)) (lines_of continues t)
lines_within continues t =
    let e : lines_of continues t ≡ not_above (length t) (lines_of continues t) = sym (ap (lines_of continues) (take_all (length t) t (omega arith))) ∙ lines_cut continues (length t) t in
    rw e (ends_within (length t) (lines_of continues t) (numbered 0 1 (ended_lines continues false t) (omega arith)))

last_within : (n b : ℕ) (ls : List Line) → b ≤ n → Each (LineWithin n) ls → last_end b ls ≤ n
last_within n b [] h k = h
last_within n b (l ∷ ls) h k = last_within n l.end ls k.0.end k.1

refused_within : (at : ℕ) (s : List ℕ) (p : ℕ) → refused_from at s ≡ Some p → p ≤ at + length s
unfolding refused_from
refused_within at [] p e = clash cc
refused_within at (b ∷ s) p e = by (accepted b) e (λ f. refused_within (at + 1) s p f)
  where
    by : (x : Bool) → cond x (refused_from (at + 1) s) (Some at) ≡ Some p → (refused_from (at + 1) s ≡ Some p → p ≤ at + 1 + length s) → p ≤ at + suc (length s)
    by true f h = omega (arith, h f)
    by false f h = let g : at ≡ p = cc in omega arith

pub refused_place : (t : List ℕ) (p : ℕ) → refused_byte t ≡ Some p → p ≤ length t
unfolding refused_byte
refused_place t p e = omega (arith, refused_within 0 t p e)

-- ---- a fold over them
-- a refusal's place is within n
abbrev pub RefusalWithin : {F : Type 0} → ℕ → Refusal F → Type 0
RefusalWithin n (faulty c p) = p ≤ n
RefusalWithin n (cut p) = p ≤ n

-- the place of a reading that refuses is within n, and P holds of what any other gives
abbrev pub ReadWithin : {F A : Type 0} → ℕ → (A → Type 0) → Result A (Refusal F) → Type 0
ReadWithin n P (Err r) = RefusalWithin n r
ReadWithin n P (Ok a) = P a

-- every fault of a step is within its line
abbrev pub FaultsWithin : {F S : Type 0} → (S → Line → Result S (Located F)) → Type 0
FaultsWithin {F} {S} step = (s : S) (l : Line) (x : Located F) → step s l ≡ Err x → x.offset ≤ length l.bytes

-- one that is told at the beginning is within any number of bytes
pub beginning_within : {F S : Type 0} (n : ℕ) (r : Result S F) (x : Located F) → at_beginning r ≡ Err x → x.offset ≤ n
beginning_within n (Err c) x e = let z : of_line c ≡ x = cc in rw (← z) (omega arith)
beginning_within n (Ok s) x e = never (sym e)

-- what every line of t keeps holds of the outcome over its lines
module _ {F S D : Type 0} (continues : ℕ → Bool) (step : S → Line → Result S (Located F)) (within : FaultsWithin step) (decision : S → Option D) (t : List ℕ) (P : S → Type 0)
    (keeps : (s s' : S) (l : Line) → LineWithin (length t) l → P s → step s l ≡ Ok s' → P s') where
  run_within : (ls : List Line) (s : S) → Each (LineWithin (length t)) ls → P s → ReadWithin (length t) P (run step ls s)
  unfolding run
  run_within [] s w h = h
  run_within (l ∷ ls) s w h = by (step s l) refl (λ s' k. run_within ls s' w.1 k)
    where
      by : (r : Result S (Located F)) → step s l ≡ r → ((s' : S) → P s' → ReadWithin (length t) P (run step ls s')) → ReadWithin (length t) P (and_then (refusing l.begin r) (run step ls))
      by (Err x) e k = omega (arith, w.0.bytes, within s l x e)
      by (Ok s') e k = k s' (keeps s s' l w.0 h e)

  pub outcome_within : (Q : Option D → Type 0) (s : S) → ((s' : S) → P s' → Q (decision s')) → P s → ReadWithin (length t) Q (outcome continues step decision s t)
  unfolding outcome
  outcome_within Q s q h = by (run step (lines_of continues t) s) (run_within (lines_of continues t) s (lines_within continues t) h)
    where
      last : (x : Bool) (s' : S) → P s' → ReadWithin {F = F} (length t) Q (require x (cut (last_end 0 (lines_of continues t))) (Ok (decision s')))
      last true s' k = q s' k
      last false s' k = last_within (length t) 0 (lines_of continues t) (omega arith) (lines_within continues t)

      by : (r : Result S (Refusal F)) → ReadWithin (length t) P r → ReadWithin (length t) Q (and_then r (λ s'. require (not (cut_short continues t)) (cut (last_end 0 (lines_of continues t))) (Ok (decision s'))))
      by (Err r) k = k
      by (Ok s') k = last (not (cut_short continues t)) s' k
