-- What one control line does, by what the readers of its fields answer.
use Rattle.std.specs.Option.{option_map, option_or}
use Rattle.std.specs.Prelude.{Err, None, Ok, Option, Result, Some}
use Rattle.question.specs.declared.Age.{Age}
use mathlib.Core.Path.{◌≡◌, refl, sym, ap, ◌∙◌}
use mathlib.Core.Bool.{Bool, true, false, not, cond, ◌&&◌}
use mathlib.Core.List.{List, [], ◌∷◌}
use Prim.Native.Nat.{ℕ}
use native.Mathlib.Omega.{arith}
use lib.ListN.{length, drop}
use Rattle.text.proofs.Laws.{clash, both_true}
use Rattle.text.proofs.Buffers.{laid_length}
use Rattle.fault.specs.Fault.{and_then}
use Rattle.fault.specs.declared.Cause.{Cause}
use Rattle.question.specs.Question.{Question}
use Rattle.question.specs.Contract.{strings_in}
use Rattle.question.specs.declared.WeekMinute.{WeekMinute}
use Rattle.line.specs.Line.{Line}
use Rattle.line.specs.Fold.{of_line, at_beginning}
use Rattle.line.specs.Scan.{scanned}
use Rattle.line.specs.Kind.{kind_of_line}
use Rattle.line.specs.Contract.{fields_in, Scans}
use Rattle.line.proofs.ScanLaws.{scanned_empty, scans_good}
use Rattle.variables.specs.Contract.{definitions_in, scope_in}
use Rattle.condition.specs.Condition.{judge_of}
use Rattle.entry.specs.Field.{Entry}
use Rattle.entry.specs.Entry.{entry_of, conditions_accept}
use Rattle.entry.specs.Path.{starred, path_for}
use Rattle.entry.specs.Verdict.{verdict_if, verdict_of}
use Rattle.entry.specs.Contract.{given}
use Rattle.entry_line.specs.Contract.{texts_in, accepts_if, Acts}
use Rattle.entry.specs.declared.entry.PathPlace.{PathPlace}
use Rattle.reader.specs.State.{State, Decision, decided_at, scope_of, with_entry}
use Rattle.reader.specs.Read.{judge_for, fields_read, line_read}
use Rattle.reader.specs.Contract.{acted, LineActs}
use Rattle.reader.specs.declared.control_line.Action.{Action}
use Rattle.reader.specs.declared.control_line.Action.TheVariants.{Entry as EntryAt}
use Rattle.table_lines.specs.Contract.{AskedWith, is_made, Stands, Decides}

-- ---- the scan
module _ {line text text' ends ends' : List ℕ} {r : (Result ℕ Cause)} (w : Scans line text text' ends ends' r) where
  -- a scan keeps the number of ends
  pub ends_kept : length ends' ≡ length ends
  ends_kept = rw w.places (laid_length ends 0 _)

  -- the fields lie in the two buffers
  pub scanned_fields : {n : ℕ} → r ≡ Ok n → length text ≡ 4096 → length ends ≡ 64 → scanned line ≡ Ok (fields_in text' ends' n)
  scanned_fields e t d = (scans_good w e (omega (arith, t)) d).0

-- ---- an entry
-- an entry that does not accept has no verdict
no_verdict : (q : Question) (s : State) (e : Entry) → given (path_for q.command e.pairs) && conditions_accept q.user e ≡ false → verdict_of q s.options s.arguments e ≡ None
unfolding verdict_of
no_verdict q s e = go (path_for q.command e.pairs)
  where
    by : (p : List ℕ) (b : Bool) → b ≡ false → cond b (Some p) None ≡ None
    by p true h = clash cc
    by p false h = refl

    go : (p : Option (List ℕ)) → given p && conditions_accept q.user e ≡ false → verdict_if q s.options s.arguments e p ≡ None
    go None h = refl
    go (Some p) h = rw h

-- an entry that does not accept, or that stands behind a line that decides, changes nothing
passed_keeps : (q : Question) (line : ℕ) (s : State) (e : Entry) (judging : Bool) → judging ≡ not (is_made s.decision) → accepts_if judging q.command q.user e ≡ false → with_entry q line e s ≡ s
unfolding with_entry
passed_keeps q line s e judging j a = ap (λ d. record { definitions = s.definitions; options = s.options; arguments = s.arguments; shell = s.shell; decision = d }) (go s.decision judging j a)
  where
    go : (d : Option Decision) (b : Bool) → b ≡ not (is_made d) → accepts_if b q.command q.user e ≡ false → option_or d (option_map (decided_at line) (verdict_of q s.options s.arguments e)) ≡ d
    go (Some d) b w z = refl
    go None true w z = rw (no_verdict q s e z)
    go None false w z = clash cc

no_bytes : (t : List ℕ) → length t ≡ 0 → t ≡ []
no_bytes [] h = refl
no_bytes (x ∷ t) h = clash cc

-- no line decides yet where entries are judged
none_made : (d : Option Decision) → true ≡ not (is_made d) → d ≡ None
none_made None h = refl
none_made (Some d) h = clash cc

module _ {q : Question} {command user groups host : List ℕ} {minute : WeekMinute} {last : (Option Age)} {args : List ℕ} (k : AskedWith q command user groups host minute last args) {s : State} {bytes sizes : List ℕ} {names : ℕ} {shell judging : Bool} (h : Stands s bytes sizes names shell judging) (l : Line) {line : List ℕ} (b : l.bytes ≡ line) where
  -- an empty line
  pub empty_nothing : length line ≡ 0 → line_read q s l ≡ Ok s
  unfolding line_read fields_read kind_of_line
  empty_nothing z = rw (b, no_bytes line z, scanned_empty)

  -- the line itself has a fault
  pub scan_fault : {c : Cause} → scanned line ≡ Err c → line_read q s l ≡ Err (of_line c)
  unfolding line_read
  scan_fault g = rw (b, g)

  module _ {fs : List (List ℕ)} (g : scanned line ≡ Ok fs) where
    -- what the reader of control lines answers is what the line does
    pub line_acted : (x : Result Action Cause) → LineActs fs 0 4 shell user host (definitions_in bytes sizes names) x → line_read q s l ≡ at_beginning (acted q l.number s fs x)
    unfolding line_read
    line_acted x a = rw (b, g) (ap at_beginning (a.acts q l.number s k.its_user k.its_host h.variables h.kind))

    -- ---- an entry
    module _ (i : ℕ) (a : LineActs fs 0 4 shell user host (definitions_in bytes sizes names) (Ok (EntryAt i))) where
      abbrev entry_read : Result Entry Cause
      entry_read = entry_of (judge_of user (strings_in groups) host minute.0) (scope_in user host bytes sizes names) (drop i fs)

      abbrev texts : ℕ → List ℕ
      texts = texts_in (scope_in user host bytes sizes names) fs

      scope_is : scope_in user host bytes sizes names ≡ scope_of q s
      scope_is = rw (k.its_user, k.its_host, h.variables)

      read_is : entry_of (judge_for q) (scope_of q s) (drop i fs) ≡ entry_read
      read_is = rw (k.its_user, k.its_groups, k.its_host, k.its_minute, h.variables)

      entering : {o : Result Entry Cause} → entry_read ≡ o → line_read q s l ≡ at_beginning (and_then o (λ e. Ok (with_entry q l.number e s)))
      entering o = line_acted (Ok (EntryAt i)) a ∙ ap (λ x. at_beginning (and_then x (λ e. Ok (with_entry q l.number e s)))) (read_is ∙ o)

      pub entry_fault : {c : Cause} → Acts judging command user texts entry_read (Err c) → line_read q s l ≡ Err (of_line c)
      entry_fault e = entering e.acts

      pub entry_passed : Acts judging command user texts entry_read (Ok None) → line_read q s l ≡ Ok s
      entry_passed e = let v = e.acts in entering v.1 ∙ ap Ok (passed_keeps q l.number s v.0 judging h.judged (rw (k.its_command, k.its_user) v.2))

      pub entry_decides : (p : PathPlace) → Acts judging command user texts entry_read (Ok (Some p)) → Decides q s l fs i p.field p.at
      entry_decides p e =
          let v = e.acts in
          let m = both_true judging (given (path_for command v.0.pairs) && conditions_accept user v.0) v.2.0 in
          record {
            entry = v.0;
            read = read_is ∙ v.1;
            enters = entering v.1;
            undecided = none_made s.decision (sym m.0 ∙ h.judged);
            accepts = ap (λ u. conditions_accept u v.0) k.its_user ∙ (both_true (given (path_for command v.0.pairs)) (conditions_accept user v.0) m.1).1;
            path = ap (λ n. path_for n v.0.pairs) k.its_command ∙ v.2.1 ∙ ap (λ n. Some (starred n (drop p.at (texts p.field)))) (sym k.its_command) ∙ ap (λ sc. Some (starred q.command (drop p.at (texts_in sc fs p.field)))) scope_is;
          }
