-- Two folds over the lines of a text that do the same on each line. Assumes nothing.
use Rattle.std.specs.Prelude.{Option, Result}
use Rattle.std.specs.List.{list_all}
use mathlib.Core.Path.{◌≡◌, refl, sym, ap, ◌∙◌}
use mathlib.Core.Bool.{Bool, true, false, not, not-not}
use mathlib.Core.List.{List, [], ◌∷◌}
use Prim.Native.Nat.{ℕ}
use Rattle.text.proofs.Laws.{both_true}
use Rattle.fault.proofs.Readings.{Each}
use Rattle.fault.proofs.Alike.{then_alike}
use Rattle.line.specs.Line.{Line, lines_of}
use Rattle.line.specs.Fold.{Located, refusing, run, outcome}

-- what holds of every element that fails a test holds of each element of a list that all fail it
pub each_failing : {A : Type 0} {P : A → Type 0} (test : A → Bool) → ((x : A) → test x ≡ false → P x) → (xs : List A) → list_all (λ x. not (test x)) xs ≡ true → Each P xs
each_failing test h [] e = tt
each_failing test h (x ∷ xs) e =
    let u = both_true (not (test x)) (list_all (λ y. not (test y)) xs) e in
    (h x (sym (not-not (test x)) ∙ ap not u.0), each_failing test h xs u.1)

module _ {F S : Type 0} (step other : S → Line → Result S (Located F)) where
  -- the same from every state
  abbrev pub Same : Line → Type 0
  Same l = (s : S) → step s l ≡ other s l

  run_alike : (ls : List Line) → Each Same ls → (s : S) → run step ls s ≡ run other ls s
  unfolding run
  run_alike [] h s = refl
  run_alike (l ∷ ls) h s = then_alike (refusing l.begin (other s l)) (ap (refusing l.begin) (h.0 s)) (run_alike ls h.1)

  pub outcome_alike : {D : Type 0} (continues : ℕ → Bool) (decision : S → Option D) (s : S) (t : List ℕ) → Each Same (lines_of continues t) → outcome continues step decision s t ≡ outcome continues other decision s t
  unfolding outcome
  outcome_alike continues decision s t h = rw (run_alike (lines_of continues t) h s)
