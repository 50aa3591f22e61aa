-- Demand 3: a cut table answers what the whole one says, "no entry", or 13 where the cut line begins. Assumes nothing.
use Rattle.std.specs.Option.{option_map, option_or}
use Rattle.std.specs.Prelude.{Err, None, Ok, Option, Result, Some}
use mathlib.Core.Path.{◌≡◌, refl, sym, ap, ◌∙◌}
use mathlib.Core.Bool.{Bool, true, false, cond}
use mathlib.Core.List.{List, ◌++◌}
use Prim.Native.Nat.{ℕ, ◌≤◌}
use native.Mathlib.Omega.{arith}
use lib.Dec.{eqb, leb}
use lib.ListN.{length, take, length-append}
use lib.Seq.{take_at}
use Rattle.text.proofs.Laws.{clash, untrue}
use Rattle.fault.specs.declared.Cause.{Cause}
use Rattle.fault.proofs.Numbers.{above_decisions}
use Rattle.question.specs.Question.{Question}
use Rattle.line.specs.Line.{backslash, ends_at, cut_place}
use Rattle.line.specs.Fold.{Refusal, faulty, cut}
use Rattle.line.specs.declared.whole.Unaccepted.{Unaccepted}
use Rattle.line.specs.declared.whole.Unaccepted.TheVariants.{Long, RefusedAt}
use Rattle.line.specs.Whole.{acceptance_of}
use Rattle.line.proofs.FoldLaws.{Decides, cuts_told}
use Rattle.line.proofs.WholeLaws.{accepted_cut}
use Rattle.entry.specs.Verdict.{Verdict, permit, password, stopped_by_nargs, stopped_by_argument, stopped_by_path}
use Rattle.reader.specs.State.{Decision, decided_at, start}
use Rattle.reader.specs.Read.{line_read}
use Rattle.reader.proofs.ReadLaws.{line_keeps}
use Rattle.table_lines.specs.Lines.{lines_give}
use Rattle.answer.specs.declared.Answer.TheVariants.{NoEntry, CutShort, SmallBuffer}
use Rattle.answer.specs.Answer.{least_buffer, Outcome, result, grant_in, told_of, told_by, is_decision, deciding_line}
use Rattle.answer.specs.Meaning.{Asked, asks, granted_by, resolved, settled, read_bytes, read_table, answer_of}
use Rattle.answer.specs.Cut.{nothing_yet, cut_answer, CutSafe}
use Rattle.answer.specs.Contract.{Promised}

-- ---- a decision stays, and is made at the line whose number it has
at_line_law : (line : ℕ) (v : Option Verdict) (d : Decision) → option_map (decided_at line) v ≡ Some d → d.line ≡ line
at_line_law line None d e = clash cc
at_line_law line (Some v) d e = let z : decided_at line v ≡ d = cc in ap (λ x. x.line) (sym z)

decides : (q : Question) → Decides (line_read q) (λ s. s.decision) (λ d. d.line)
decides q = record {
  keeps = λ s t l d v e. let k = line_keeps q s t l e in k.decides ∙ ap (λ o. option_or o (option_map (decided_at l.number) k.own)) v;
  fresh = λ s t l d v e w. let k = line_keeps q s t l e in at_line_law l.number k.own d (sym (ap (λ o. option_or o (option_map (decided_at l.number) k.own)) v) ∙ sym k.decides ∙ w);
}

-- ---- where a table gives a decision, every check before the control lines has passed
pub record Asks (t : List ℕ) (a : Asked) (b : List ℕ) : Type 0 where
  pub question : Question
  pub room : leb least_buffer (length b) ≡ true
  pub good : asks a ≡ Some question
  pub accepted : acceptance_of t ≡ Ok tt

pub asked : (t : List ℕ) (a : Asked) (b : List ℕ) → is_decision (answer_of t a b) ≡ true → Asks t a b
unfolding answer_of is_decision told_of
asked t a b e = room (leb least_buffer (length b)) refl e
  where
    bytes : (q : Question) → leb least_buffer (length b) ≡ true → asks a ≡ Some q → (x : Result Unit Unaccepted) → acceptance_of t ≡ x → is_decision (read_bytes t q b x) ≡ true → Asks t a b
    bytes q r g (Ok x) h f = record { question = q; room = r; good = g; accepted = h }
    bytes q r g (Err Long) h f = untrue f
    bytes q r g (Err (RefusedAt p)) h f = untrue f

    good : leb least_buffer (length b) ≡ true → (o : Option Question) → asks a ≡ o → is_decision (read_table t b o) ≡ true → Asks t a b
    good r None h f = untrue f
    good r (Some q) h f = bytes q r h (acceptance_of t) refl f

    room : (x : Bool) → leb least_buffer (length b) ≡ x → is_decision (cond x (read_table t b (asks a)) (result SmallBuffer b)) ≡ true → Asks t a b
    room true h f = good h (asks a) refl f
    room false h f = untrue f

-- then the answer is what the control lines give
pub read : {t : List ℕ} {a : Asked} {b : List ℕ} (w : Asks t a b) → answer_of t a b ≡ settled b (lines_give w.question t)
unfolding answer_of
read {t} {a} {b} w = rw (w.room, w.good, w.accepted)

cut_asks : (n : ℕ) {t : List ℕ} {a : Asked} {b : List ℕ} → Asks t a b → Asks (take n t) a b
cut_asks n {t} {a} {b} w = record { question = w.question; room = w.room; good = w.good; accepted = accepted_cut n t w.accepted }

-- ---- what a decision tells
line_told_law : (b : List ℕ) (line : ℕ) (v : Verdict) → deciding_line (resolved b line v) ≡ line
unfolding deciding_line told_of grant_in granted_by
line_told_law b line (permit p o) = refl
line_told_law b line (password p o) = refl
line_told_law b line stopped_by_nargs = refl
line_told_law b line stopped_by_argument = refl
line_told_law b line stopped_by_path = refl

not_two : (b : List ℕ) (line : ℕ) (v : Verdict) → eqb (told_by (resolved b line v)).number 2 ≡ false
unfolding told_of
not_two b line (permit p o) = refl
not_two b line (password p o) = refl
not_two b line stopped_by_nargs = refl
not_two b line stopped_by_argument = refl
not_two b line stopped_by_path = refl

-- ---- the cut table, by what the whole one gives
cut_gives : (t b : List ℕ) (n : ℕ) (q : Question) → n ≤ length t → (r : Result (Option Decision) (Refusal Cause)) → lines_give q t ≡ r → is_decision (settled b r) ≡ true → settled b (lines_give q (take n t)) ≡ cut_answer t b n (settled b r)
unfolding cut_answer nothing_yet is_decision told_of start
cut_gives t b n q l (Err (faulty c p)) e f = untrue (sym (above_decisions c) ∙ f)
cut_gives t b n q l (Err (cut p)) e f = untrue f
cut_gives t b n q l (Ok o) e f =
    cuts_told (line_read q) (λ s. s.decision) (λ d. d.line) (decides q) (settled b) (λ w. eqb (told_by w).number 2) deciding_line (λ d. not_two b d.line d.verdict) (λ d. line_told_law b d.line d.verdict) backslash start refl t n l o e

-- for all tables, questions, buffers and cuts at once
pub cut_safe : CutSafe
unfolding cut_asks
cut_safe t a b n l f =
    let w = asked t a b f in
    read (cut_asks n w) ∙ cut_gives t b n w.question l (lines_give w.question t) refl (rw (read w) at f) ∙ ap (cut_answer t b n) (sym (read w))

-- so an outcome that is the definition's is right as the whole one and as a cut one
pub promised : (t : List ℕ) (a : Asked) (b : List ℕ) {o : Outcome} → o ≡ answer_of t a b → Promised t a b o
promised t a b e = record {
  meaning = e;
  whole = λ n l f. rw e (cut_safe t a b n l (ap is_decision (sym e) ∙ f));
  cut = λ w n l h f. e ∙ ap (λ s. answer_of s a b) (sym h) ∙ cut_safe w a b n l f;
}

-- a table that decides for an entry gives the same with any more bytes behind it, where those leave it a decision
pub later_lines : (t u : List ℕ) (a : Asked) (b : List ℕ) → is_decision (answer_of t a b) ≡ true → eqb (told_by (answer_of t a b)).number 2 ≡ false → is_decision (answer_of (t ++ u) a b) ≡ true → answer_of (t ++ u) a b ≡ answer_of t a b
unfolding cut_answer is_decision told_of
later_lines t u a b d e f =
    let l : length t ≤ length (t ++ u) = omega (arith, length-append t u) in
    let h : answer_of t a b ≡ cut_answer (t ++ u) b (length t) (answer_of (t ++ u) a b) = ap (λ s. answer_of s a b) (sym (take_at t u (length t) refl)) ∙ cut_safe (t ++ u) a b (length t) l f in
    sym (h ∙ by (ends_at backslash (t ++ u) (length t)) (nothing_yet (t ++ u) (length t) (answer_of (t ++ u) a b)) h)
  where
    by : (x y : Bool) → answer_of t a b ≡ cond x (cond y (result NoEntry b) (answer_of (t ++ u) a b)) (result (CutShort (cut_place backslash (t ++ u) (length t))) b) → cond x (cond y (result NoEntry b) (answer_of (t ++ u) a b)) (result (CutShort (cut_place backslash (t ++ u) (length t))) b) ≡ answer_of (t ++ u) a b
    by true false h = refl
    by true true h = untrue (sym e ∙ ap (λ o. eqb (told_by o).number 2) h)
    by false y h = untrue (sym (ap is_decision h) ∙ d)
