-- Whether a file is refused, and where, depends on no question: two good questions get the same refusal.
use Rattle.std.specs.Option.{option_and_then, option_or}
use Rattle.std.specs.Prelude.{Err, None, Ok, Option, Result, Some}
use mathlib.Core.Path.{◌≡◌, refl}
use mathlib.Core.Bool.{Bool, true, false, not}
use mathlib.Core.List.{List, [], ◌∷◌}
use Prim.Native.Nat.{ℕ}
use Rattle.text.proofs.Laws.{clash}
use Rattle.fault.specs.Fault.{and_then, require}
use Rattle.line.specs.Line.{Line, no_byte, lines_of, last_end, cut_short}
use Rattle.line.specs.Fold.{at_beginning, Refusal, cut, refusing, run, outcome}
use Rattle.line.specs.declared.whole.Unaccepted.{Unaccepted}
use Rattle.line.specs.declared.whole.Unaccepted.TheVariants.{Long, RefusedAt}
use Rattle.line.specs.Whole.{acceptance_of}
use Rattle.suauth.specs.declared.Action.TheVariants.{Deny, NoPassword, OwnPassword}
use Rattle.suauth.specs.declared.rule.Malformed.{Malformed}
use Rattle.suauth.specs.declared.lines.Decision.{Decision}
use Rattle.suauth.specs.Rule.{Rule, rule_in}
use Rattle.suauth.specs.Answer.{told_of, is_decision}
use Rattle.suauth.specs.Meaning.{Question, Asked, question_of, decided_by, line_read, lines_give, action_by, settled, read_bytes, answer_of}

-- the fault of a reading, if it has one
abbrev fault_in : {F A : Type 0} → Result A F → Option F
fault_in (Err c) = Some c
fault_in (Ok a) = None

-- two readings with the same fault, and then two with the same fault
then_alike : {F A B : Type 0} (x y : Result A F) (f g : A → Result B F) → fault_in x ≡ fault_in y → ((a b : A) → fault_in (f a) ≡ fault_in (g b)) → fault_in (and_then x f) ≡ fault_in (and_then y g)
then_alike (Err c) (Err d) f g e h = e
then_alike (Err c) (Ok b) f g e h = clash cc
then_alike (Ok a) (Err d) f g e h = clash cc
then_alike (Ok a) (Ok b) f g e h = h a b

module _ (q q' : Question) where
  run_alike : (ls : List Line) (d d' : Option Decision) → fault_in (run (line_read q) ls d) ≡ fault_in (run (line_read q') ls d')
  unfolding run line_read
  run_alike [] d d' = refl
  run_alike (l ∷ ls) d d' = by (rule_in l.bytes) (run_alike ls)
    where
      by : (r : Result (Option Rule) Malformed) → ((e e' : Option Decision) → fault_in (run (line_read q) ls e) ≡ fault_in (run (line_read q') ls e')) → fault_in (and_then (refusing l.begin (at_beginning (and_then r (λ o. Ok (option_or d (option_and_then (decided_by q l.number) o)))))) (run (line_read q) ls)) ≡ fault_in (and_then (refusing l.begin (at_beginning (and_then r (λ o. Ok (option_or d' (option_and_then (decided_by q' l.number) o)))))) (run (line_read q') ls))
      by (Err m) rec = refl
      by (Ok o) rec = rec _ _

  lines_alike : (t : List ℕ) → fault_in (lines_give q t) ≡ fault_in (lines_give q' t)
  unfolding outcome
  lines_alike t = then_alike (run (line_read q) (lines_of no_byte t) None) (run (line_read q') (lines_of no_byte t) None) _ _ (run_alike (lines_of no_byte t) None None) (by (not (cut_short no_byte t)) (cut (last_end 0 (lines_of no_byte t))))
    where
      by : (x : Bool) (c : Refusal Malformed) (d d' : Option Decision) → fault_in (require x c (Ok d)) ≡ fault_in (require x c (Ok d'))
      by true c d d' = refl
      by false c d d' = refl

-- a decision is no refusal
decision_told : (o : Option Decision) → is_decision (settled (Ok o)) ≡ true
unfolding is_decision told_of
decision_told None = refl
decision_told (Some d) = by d.action
  where
    by : (a : _) → is_decision (action_by a d.line) ≡ true
    by Deny = refl
    by NoPassword = refl
    by OwnPassword = refl

-- what is refused for one good question is refused for every other, with the same number and place
pub refusal_alike : (t : List ℕ) (a a' : Asked) {q q' : Question} → question_of a ≡ Some q → question_of a' ≡ Some q' → is_decision (answer_of t a) ≡ false → answer_of t a' ≡ answer_of t a
unfolding answer_of
refusal_alike t a a' {q} {q'} e f n = rw (e, f) (bytes (acceptance_of t) (rw e at n))
  where
    lines : (x y : Result (Option Decision) (Refusal Malformed)) → fault_in x ≡ fault_in y → is_decision (settled x) ≡ false → settled y ≡ settled x
    lines (Err r) (Err s) h k = let z : r ≡ s = cc in rw z
    lines (Err r) (Ok o) h k = clash cc
    lines (Ok o) y h k = clash (let z = decision_told o in cc)

    bytes : (x : Result Unit Unaccepted) → is_decision (read_bytes t q x) ≡ false → read_bytes t q' x ≡ read_bytes t q x
    bytes (Err Long) k = refl
    bytes (Err (RefusedAt p)) k = refl
    bytes (Ok x) k = lines (lines_give q t) (lines_give q' t) (lines_alike q q' t) k
