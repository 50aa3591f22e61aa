-- Demand 3: a cut file answers what the whole one says, "no rule", or 13 where the cut line begins.
use Rattle.std.specs.Prelude.{Err, None, Ok, Option, Result, Some}
use mathlib.Core.Path.{◌≡◌, refl, sym, ap, ◌∙◌}
use mathlib.Core.Bool.{true, false}
use mathlib.Core.List.{List}
use Prim.Native.Nat.{ℕ, ◌≤◌}
use lib.ListN.{length, take}
use Rattle.text.proofs.Laws.{untrue}
use Rattle.line.specs.Line.{no_byte}
use Rattle.line.specs.Fold.{Refusal, faulty, cut}
use Rattle.line.specs.declared.whole.Unaccepted.{Unaccepted}
use Rattle.line.specs.declared.whole.Unaccepted.TheVariants.{Long, RefusedAt}
use Rattle.line.specs.Whole.{acceptance_of}
use Rattle.line.proofs.FoldLaws.{cuts_told}
use Rattle.line.proofs.WholeLaws.{accepted_cut}
use Rattle.suauth.specs.declared.Action.{Action}
use Rattle.suauth.specs.declared.Action.TheVariants.{Deny, NoPassword, OwnPassword}
use Rattle.suauth.specs.declared.SuAnswer.{SuAnswer}
use Rattle.suauth.specs.declared.lines.Decision.{Decision}
use Rattle.suauth.specs.declared.rule.Malformed.{Malformed}
use Rattle.suauth.specs.Answer.{told_of, is_decision, says_no_rule, line_told}
use Rattle.suauth.specs.Meaning.{Question, Asked, question_of, line_read, lines_give, action_by, settled, read_bytes, read_file, answer_of}
use Rattle.suauth.specs.Cut.{nothing_yet, cut_answer, CutSafe}
use Rattle.suauth.specs.Contract.{Promised}
use Rattle.suauth.proofs.LineLaws.{once}

-- ---- where a file gives a decision, every check before the lines has passed
record Asks (t : List ℕ) (a : Asked) : Type 0 where
  question : Question
  good : question_of a ≡ Some question
  accepted : acceptance_of t ≡ Ok tt

asked : (t : List ℕ) (a : Asked) → is_decision (answer_of t a) ≡ true → Asks t a
unfolding answer_of is_decision told_of
asked t a e = good (question_of a) refl e
  where
    bytes : (q : Question) → question_of a ≡ Some q → (x : Result Unit Unaccepted) → acceptance_of t ≡ x → is_decision (read_bytes t q x) ≡ true → Asks t a
    bytes q g (Ok x) h f = record { question = q; good = g; accepted = h }
    bytes q g (Err Long) h f = untrue f
    bytes q g (Err (RefusedAt p)) h f = untrue f

    good : (o : Option Question) → question_of a ≡ o → is_decision (read_file t o) ≡ true → Asks t a
    good None h f = untrue f
    good (Some q) h f = bytes q h (acceptance_of t) refl f

-- then the answer is what the lines give
read : {t : List ℕ} {a : Asked} (w : Asks t a) → answer_of t a ≡ settled (lines_give w.question t)
unfolding answer_of
read {t} {a} w = rw (w.good, w.accepted)

cut_asks : (n : ℕ) {t : List ℕ} {a : Asked} → Asks t a → Asks (take n t) a
cut_asks n {t} {a} w = record { question = w.question; good = w.good; accepted = accepted_cut n t w.accepted }

-- ---- what a decision tells
says_rule : (a : Action) (l : ℕ) → says_no_rule (told_of (action_by a l)) ≡ false
unfolding told_of
says_rule Deny l = refl
says_rule NoPassword l = refl
says_rule OwnPassword l = refl

says_line : (a : Action) (l : ℕ) → line_told (told_of (action_by a l)) ≡ l
unfolding told_of
says_line Deny l = refl
says_line NoPassword l = refl
says_line OwnPassword l = refl

-- ---- the cut file, by what the whole one gives
cut_gives : (t : List ℕ) (n : ℕ) (q : Question) → n ≤ length t → (r : Result (Option Decision) (Refusal Malformed)) → lines_give q t ≡ r → is_decision (settled r) ≡ true → settled (lines_give q (take n t)) ≡ cut_answer t n (settled r)
unfolding cut_answer nothing_yet is_decision told_of
cut_gives t n q l (Err (faulty m p)) e f = untrue f
cut_gives t n q l (Err (cut p)) e f = untrue f
cut_gives t n q l (Ok o) e f =
    cuts_told (line_read q) (λ d. d) (λ d. d.line) (once q) settled (λ w. says_no_rule (told_of w)) (λ w. line_told (told_of w)) (λ d. says_rule d.action d.line) (λ d. says_line d.action d.line) no_byte None refl t n l o e

-- for all files, questions and cuts at once
pub cut_safe : CutSafe
unfolding cut_asks
cut_safe t a n l f =
    let w = asked t a f in
    read (cut_asks n w) ∙ cut_gives t n w.question l (lines_give w.question t) refl (rw (read w) at f) ∙ ap (cut_answer t n) (sym (read w))

-- so an answer that is the definition's is right as the whole one and as a cut one
pub promised : (t : List ℕ) (a : Asked) (r : SuAnswer) → r ≡ answer_of t a → Promised t a r
promised t a r e = record {
  meaning = e;
  whole = λ n l f. rw e (cut_safe t a n l (ap is_decision (sym e) ∙ f));
  cut = λ w n l h f. e ∙ ap (λ s. answer_of s a) (sym h) ∙ cut_safe w a n l f;
}
