-- A fold over the lines of a text, line by line from a place on: for callers that read the lines one after the other.
use Rattle.std.specs.Prelude.{Err, Ok, Option, Result}
use mathlib.Core.Path.{◌≡◌, ap, ◌∙◌}
use mathlib.Core.Bool.{Bool, not}
use mathlib.Core.List.{List, []}
use Prim.Native.Nat.{ℕ, ◌+◌, ◌-◌, ◌≤◌, ◌<◌}
use native.Mathlib.Nat.{add-zero}
use borrow.Author.Tests.{lt-ltb, le-ltb}
use lib.Dec.{ltb}
use lib.ListN.{length, take, drop, drop_of_length-le}
use Rattle.fault.specs.Fault.{and_then, require}
use Rattle.line.specs.Line.{Line, line, ended_lines, placed, last_end}
use Rattle.line.specs.Fold.{Located, of_line, Refusal, faulty, cut, located, run, outcome}
use Rattle.line.specs.Contract.{lines_from, LineEnds}
use Rattle.line.proofs.LineLaws.{short_text}

-- the line that begins at a place, ends at e and has this number
abbrev pub line_at : List ℕ → ℕ → ℕ → ℕ → Line
line_at t at e number = line at e number (take (e - 1 - at) (drop at t))

module _ {F S D : Type 0} (continues : ℕ → Bool) (step : S → Line → Result S (Located F)) (decision : S → Option D) (t : List ℕ) where
  -- what the lines from a place on give, where s is the state there
  unfoldable pub outcome_from : ℕ → ℕ → S → Result (Option D) (Refusal F)
  outcome_from at number s =
      and_then (run step (lines_from continues t at number) s) (λ last.
      require (not (ltb (last_end at (lines_from continues t at number)) (length t))) (cut (last_end at (lines_from continues t at number)))
      (Ok (decision last)))

  pub from_start : (s : S) → outcome_from 0 1 s ≡ outcome continues step decision s t
  unfolding outcome_from outcome
  from_start s = rw (short_text continues t)

  module _ (at number : ℕ) (s : S) where
    -- no line is left
    pub from_end : length t ≤ at → outcome_from at number s ≡ Ok (decision s)
    unfolding outcome_from run ended_lines placed
    from_end h = rw (drop_of_length-le t h, le-ltb at (length t) h)

    -- a line is left that does not end
    pub from_cut : at < length t → lines_from continues t at number ≡ [] → outcome_from at number s ≡ Err (cut at)
    unfolding outcome_from run
    from_cut h e = rw (e, lt-ltb at (length t) h)

    module _ {e count : ℕ} (l : LineEnds continues t at e count) where
      -- a line that has a fault
      pub from_fault : {x : Located F} → step s (line_at t at e number) ≡ Err x → outcome_from at number s ≡ Err (located at x)
      unfolding outcome_from run
      from_fault f = rw (l.reads number, f)

      -- a fault of the line as a whole refuses the text where the line begins
      pub from_beginning : {c : F} → step s (line_at t at e number) ≡ Err (of_line c) → outcome_from at number s ≡ Err (faulty c at)
      from_beginning {c} f = from_fault f ∙ ap (λ p. Err (faulty c p)) (add-zero at)

      -- a line that is good
      pub from_on : {s' : S} → step s (line_at t at e number) ≡ Ok s' → outcome_from at number s ≡ outcome_from e (number + count) s'
      unfolding outcome_from run
      from_on f = rw (l.reads number, f)
