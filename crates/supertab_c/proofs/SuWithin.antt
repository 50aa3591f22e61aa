-- The lines and places that an answer from a su file tells are at most 32,768. Assumes nothing.
use Rattle.std.specs.Option.{option_and_then, option_or}
use Rattle.std.specs.Prelude.{Err, None, Ok, Option, Result, Some}
use mathlib.Core.Path.{◌≡◌, refl}
use mathlib.Core.Bool.{Bool, true, false, cond}
use mathlib.Core.List.{List}
use Prim.Native.Nat.{ℕ, ◌≤◌}
use native.Mathlib.Omega.{arith}
use lib.ListN.{length}
use Rattle.fault.specs.Fault.{and_then}
use Rattle.fault.proofs.Readings.{never, same_value}
use Rattle.line.specs.Line.{table_limit, Line, no_byte}
use Rattle.line.specs.Fold.{Refusal, faulty, cut}
use Rattle.line.specs.declared.whole.Unaccepted.{Unaccepted}
use Rattle.line.specs.declared.whole.Unaccepted.TheVariants.{Long, RefusedAt}
use Rattle.line.specs.Whole.{acceptance_of}
use Rattle.line.proofs.FoldLaws.{beginning_value}
use Rattle.line.proofs.WithinLaws.{LineWithin, ReadWithin, FaultsWithin, beginning_within, outcome_within}
use Rattle.line.proofs.WholeLaws.{accepted_short, refused_within}
use Rattle.suauth.specs.declared.Action.{Action}
use Rattle.suauth.specs.declared.Action.TheVariants.{Deny, NoPassword, OwnPassword}
use Rattle.suauth.specs.declared.SuAnswer.{SuAnswer}
use Rattle.suauth.specs.declared.rule.Malformed.{Malformed}
use Rattle.suauth.specs.declared.lines.Decision.{Decision}
use Rattle.suauth.specs.Rule.{Rule, rule_in}
use Rattle.suauth.specs.Answer.{told_of}
use Rattle.suauth.specs.Meaning.{Asked, Question, question_of, applies, decided_by, line_read, lines_give, action_by, settled, read_bytes, read_file, answer_of}
use Rattle.supertab_c.specs.Su.{su_told}

-- ---- the lines
abbrev DecidedWithin : ℕ → Option Decision → Type 0
DecidedWithin n None = Unit {0}
DecidedWithin n (Some d) = d.line ≤ n

module _ (n : ℕ) (q : Question) where
  decided_or : (line : ℕ) (d : Option Decision) (r : Option Rule) → line ≤ n → DecidedWithin n d → DecidedWithin n (option_or d (option_and_then (decided_by q line) r))
  decided_or line None None h k = tt
  decided_or line None (Some r) h k = by (applies q r)
    where
      by : (x : Bool) → DecidedWithin n (cond x (Some (record { line = line; action = r.action })) None)
      by true = h
      by false = tt
  decided_or line (Some d) r h k = k

  keeps : (d d' : Option Decision) (l : Line) → LineWithin n l → DecidedWithin n d → line_read q d l ≡ Ok d' → DecidedWithin n d'
  unfolding line_read
  keeps d d' l w h e = by (rule_in l.bytes) (beginning_value (and_then (rule_in l.bytes) (λ (o : Option Rule). Ok (option_or d (option_and_then (decided_by q l.number) o)))) d' e)
    where
      by : (r : Result (Option Rule) Malformed) → and_then r (λ (o : Option Rule). Ok (option_or d (option_and_then (decided_by q l.number) o))) ≡ Ok d' → DecidedWithin n d'
      by (Err m) f = never f
      by (Ok r) f = rw (← same_value f) (decided_or l.number d r w.number h)

-- a fault of a line is within the line
line_faults : (q : Question) → FaultsWithin (line_read q)
unfolding line_read
line_faults q d l x e = beginning_within (length l.bytes) (and_then (rule_in l.bytes) (λ (o : Option Rule). Ok (option_or d (option_and_then (decided_by q l.number) o)))) x e

lines_within : (q : Question) (t : List ℕ) → ReadWithin (length t) (DecidedWithin (length t)) (lines_give q t)
lines_within q t = outcome_within no_byte (line_read q) (line_faults q) (λ d. d) t (DecidedWithin (length t)) (keeps (length t) q) (DecidedWithin (length t)) None (λ d h. h) tt

-- ---- the answer
-- what is told beside an answer's number is at most 32,768
abbrev Small : SuAnswer → Type 0
Small a = (su_told (told_of a)).value ≤ table_limit

action_small : (x : Action) (line : ℕ) → line ≤ table_limit → Small (action_by x line)
unfolding su_told told_of
action_small Deny line h = h
action_small NoPassword line h = h
action_small OwnPassword line h = h

settled_small : (n : ℕ) (r : Result (Option Decision) (Refusal Malformed)) → n ≤ table_limit → ReadWithin n (DecidedWithin n) r → Small (settled r)
unfolding su_told told_of
settled_small n (Err (faulty m p)) h k = omega arith
settled_small n (Err (cut p)) h k = omega arith
settled_small n (Ok None) h k = omega arith
settled_small n (Ok (Some d)) h k = action_small d.action d.line (omega arith)

file_small : (t : List ℕ) (o : Option Question) → Small (read_file t o)
unfolding su_told told_of
file_small t None = omega arith
file_small t (Some q) = by (acceptance_of t) refl
  where
    by : (x : Result Unit Unaccepted) → acceptance_of t ≡ x → Small (read_bytes t q x)
    by (Err Long) e = omega arith
    by (Err (RefusedAt p)) e = refused_within t e
    by (Ok done) e = settled_small (length t) (lines_give q t) (accepted_short t e) (lines_within q t)

pub su_small : (t : List ℕ) (a : Asked) → (su_told (told_of (answer_of t a))).value ≤ table_limit
unfolding answer_of
su_small t a = file_small t (question_of a)
