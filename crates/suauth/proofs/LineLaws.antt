-- The lines of a file one after the other: what each comes to, and what is kept of the lines so far.
use Rattle.std.proofs.Common.{◌≡◌, ℕ, ◌+◌, ◌-◌, ◌≤◌, ◌<◌, List, [], length, take, drop, Bool, true, false, cond, None, Some, Option, Ok, Err, Result, refl, sym, ap, ◌∙◌}
use Rattle.std.specs.Option.{option_and_then, option_map, option_or}
use Rattle.fault.specs.Fault.{and_then}
use Rattle.fault.proofs.Readings.{and_then_law, same_value}
use Rattle.line.specs.Line.{Line, no_byte}
use Rattle.line.specs.Fold.{at_beginning}
use Rattle.line.specs.Contract.{lines_from, LineEnds}
use Rattle.line.proofs.FoldLaws.{Decides, beginning_value}
use Rattle.line.proofs.StepLaws.{outcome_from, from_start, from_end, from_cut, from_beginning, from_on}
use Rattle.suauth.specs.declared.Action.{Action}
use Rattle.suauth.specs.declared.SuAnswer.{SuAnswer}
use Rattle.suauth.specs.declared.SuAnswer.TheVariants.{CutShort, MalformedLine}
use Rattle.suauth.specs.declared.lines.Decision.{Decision}
use Rattle.suauth.specs.declared.rule.Malformed.{Malformed}
use Rattle.suauth.specs.Rule.{Rule, malformed, rule_in}
use Rattle.suauth.specs.Meaning.{Question, applies, decided_by, line_read, settled, lines_give}
use Rattle.suauth.specs.Contract.{line_tells}

-- what a line of this number decides, whose rule says this
abbrev pub decision_at : ℕ → Action → Decision
decision_at n a = record { line = n; action = a }

module _ (q : Question) where
  -- ---- what a line comes to, by what it tells
  told_bad : (r : Result (Option Rule) Malformed) (e : Malformed) → line_tells q r ≡ Err e → r ≡ Err malformed
  unfolding line_tells
  told_bad (Err m) e h = refl
  told_bad (Ok o) e h = cc

  told_good : (d : Option Decision) (n : ℕ) (r : Result (Option Rule) Malformed) (o : Option Action) → line_tells q r ≡ Ok o → and_then r (λ x. Ok (option_or d (option_and_then (decided_by q n) x))) ≡ Ok (option_or d (option_map (decision_at n) o))
  unfolding line_tells
  told_good d n (Err m) o h = cc
  told_good d n (Ok None) o h = let e : o ≡ None = cc in rw e
  told_good d n (Ok (Some r)) o h = by (applies q r) h
    where
      by : (x : Bool) → ◌≡◌ {A = Result (Option Action) Malformed} (Ok (cond x (Some r.action) None)) (Ok o) → ◌≡◌ {A = Result (Option Decision) Malformed} (Ok (option_or d (cond x (Some (decision_at n r.action)) None))) (Ok (option_or d (option_map (decision_at n) o)))
      by true k = let e : o ≡ Some r.action = cc in rw e
      by false k = let e : o ≡ None = cc in rw e

  -- ---- the lines so far
  module _ (t : List ℕ) where
    -- what is decided at a place, behind the lines so far: the rest of the lines gives with it what the whole file gives
    pub record SoFar (d : Option Decision) (at number : ℕ) : Type 0 where
      pub rest : outcome_from no_byte (line_read q) (λ x. x) t at number d ≡ lines_give q t

    pub so_start : SoFar None 0 1
    so_start = record { rest = from_start no_byte (line_read q) (λ x. x) t None }

    module _ {d : Option Decision} {at number : ℕ} (f : SoFar d at number) where
      -- no line is left
      pub so_end : length t ≤ at → {r : SuAnswer} → r ≡ settled (Ok d) → r ≡ settled (lines_give q t)
      so_end h e = e ∙ ap settled (sym (from_end no_byte (line_read q) (λ x. x) t at number d h) ∙ f.rest)

      -- a line is left that does not end
      pub so_cut : at < length t → lines_from no_byte t at number ≡ [] → CutShort at ≡ settled (lines_give q t)
      so_cut h e = ap settled (sym (from_cut no_byte (line_read q) (λ x. x) t at number d h e) ∙ f.rest)

      module _ {end count : ℕ} (l : LineEnds no_byte t at end count) where
        -- a malformed line
        pub so_bad : (e : Malformed) → Err e ≡ line_tells q (rule_in (take (end - 1 - at) (drop at t))) → MalformedLine at ≡ settled (lines_give q t)
        unfolding line_read
        so_bad e h = ap settled (sym (from_beginning no_byte (line_read q) (λ x. x) t at number d l {c = malformed} (rw (told_bad (rule_in (take (end - 1 - at) (drop at t))) e (sym h)))) ∙ f.rest)

        -- any other
        pub so_on : (o : Option Action) → Ok o ≡ line_tells q (rule_in (take (end - 1 - at) (drop at t))) → {d' : Option Decision} → d' ≡ option_or d (option_map (decision_at number) o) → SoFar d' end (number + count)
        unfolding line_read
        so_on o h k = record {
          rest =
              sym (from_on no_byte (line_read q) (λ x. x) t at number d l (rw k (ap at_beginning (told_good d number (rule_in (take (end - 1 - at) (drop at t))) o (sym h)))))
              ∙ f.rest;
        }

-- ---- a decision stays, and is made at the line whose number it has
module _ (q : Question) where
  -- a line that is read leaves what was decided, or decides by its own rule
  read_by : (d d' : Option Decision) (l : Line) → line_read q d l ≡ Ok d' → (r : Option Rule) × (option_or d (option_and_then (decided_by q l.number) r) ≡ d')
  unfolding line_read
  read_by d d' l e = let x = and_then_law (rule_in l.bytes) _ d' (beginning_value (and_then (rule_in l.bytes) (λ r. Ok (option_or d (option_and_then (decided_by q l.number) r)))) d' e) in (x.0, same_value x.2)

  own_line : (n : ℕ) (r : Option Rule) (d : Decision) → option_and_then (decided_by q n) r ≡ Some d → d.line ≡ n
  own_line n None d e = cc
  own_line n (Some r) d e = by (applies q r) e
    where
      by : (x : Bool) → cond x (Some (record { line = n; action = r.action })) None ≡ Some d → d.line ≡ n
      by true f = let z : record { line = n; action = r.action } ≡ d = cc in sym (ap (λ y. y.line) z)
      by false f = cc

  pub once : Decides (line_read q) (λ d. d) (λ d. d.line)
  once = record {
    keeps = λ d d' l m e f. let x = read_by d d' l f in sym x.1 ∙ ap (λ o. option_or o (option_and_then (decided_by q l.number) x.0)) e;
    fresh = λ d d' l m e f g. let x = read_by d d' l f in own_line l.number x.0 m (sym (ap (λ o. option_or o (option_and_then (decided_by q l.number) x.0)) e) ∙ x.1 ∙ g);
  }
