-- The laws of the call that answers a question line. Assumes nothing.
use Rattle.std.specs.Prelude.{None, Option, Result, Some}
use Rattle.question.specs.declared.Age.{Age}
use mathlib.Core.Path.{◌≡◌, refl, ap, ◌∙◌}
use mathlib.Core.List.{List, []}
use Prim.Native.Nat.{ℕ, ◌+◌, ◌≤◌}
use native.Mathlib.Omega.{arith}
use lib.ListN.{length, replicate}
use Rattle.text.specs.Contract.{Wrote}
use Rattle.text.proofs.Buffers.{wrote_done}
use Rattle.answer.specs.declared.Answer.{Answer}
use Rattle.answer.specs.declared.Answer.TheVariants.{MalformedQuestion}
use Rattle.text.specs.Buffer.{laid}
use Rattle.question.specs.declared.WeekMinute.{WeekMinute}
use Rattle.answer.specs.Answer.{least_buffer, result, Told, told_of, told_by, deciding_line}
use Rattle.answer.specs.Meaning.{Asked, answer_of}
use Rattle.console.specs.declared.question_line.Pieces.{Pieces}
use Rattle.record.specs.declared.Fields.{Fields}
use Rattle.record.specs.declared.Unrecorded.{Unrecorded}
use Rattle.record.specs.Stored.{known}
use Rattle.record.specs.Write.{written_of}
use Rattle.record.specs.Decision.{fields_by, recorded_of, bytes_recorded, record_bytes}
use Rattle.record.specs.Contract.{Records, record_within, bytes_written}
use Rattle.record.proofs.AppendLaws.{recorded_laid, recorded_count}
use Rattle.console.specs.declared.respond.Answered.{Answered}
use Rattle.console.specs.QuestionLine.{asked_in}
use Rattle.console.specs.Printed.{printed}
use Rattle.console.specs.Console.{told_for, outcome_for, response, logged_for, logged}
use Rattle.console.specs.Contract.{part, asked_by, Placed, Reads, Answers, Responds}
use Rattle.console.proofs.PartLaws.{fits}
use Rattle.console.proofs.ResponseLaws.{response_length}

-- a line that was read
module _ {line scratch : List ℕ} {r : (Option Pieces)} (w : Reads line (asked_in line) scratch r) where
  pub pieces_placed : {p : Pieces} → r ≡ Some p → Placed line (Some p)
  pieces_placed e = rw e at w.placed

  pub malformed_told : (table b : List ℕ) → r ≡ None → Answers table line b b (record { answer = MalformedQuestion; minute = record { 0 = 0 }; last = None })
  malformed_told table b e =
      let n : None ≡ asked_in line = rw e at w.asks in
      record { outcome = rw (← n); minute = rw (← n); last = rw (← n) }

  pub asked_told : (table old : List ℕ) {p : Pieces} {a : Answer} {new : List ℕ} → r ≡ Some p
      → result a new ≡ answer_of table (record { command = part line 0 p.command; user = part line (p.command + 1) p.user; groups = part scratch 0 p.groups; host = part line (p.list + 1) p.host; minute = p.minute; age = p.last; args = part scratch p.groups p.args }) old
      → Answers table line old new (record { answer = a; minute = p.minute; last = p.last })
  asked_told table old {p} e f =
      let s : asked_by line scratch (Some p) ≡ asked_in line = rw e at w.asks in
      record { outcome = rw (← s) f; minute = rw (← s); last = rw (← s) }

-- what is told of the outcome, with a new buffer
pub told_for_law : (table : List ℕ) (o : Option Asked) {a : Answer} {new : List ℕ} → result a new ≡ outcome_for table o (replicate least_buffer 0) → told_of a new ≡ told_for table o
unfolding told_of
told_for_law table None e = ap told_by e
told_for_law table (Some asked) e = ap told_by e

-- ---- the record
-- the answer 10 has none
refused_record : (minute : WeekMinute) (last : (Option Age)) (b : List ℕ) → record_bytes (fields_by (result MalformedQuestion b) minute last) ≡ []
unfolding record_bytes recorded_of bytes_recorded fields_by written_of known deciding_line told_of
refused_record minute last b = refl

module _ (table line : List ℕ) {buffer : List ℕ} {a : Answered} (x : Answers table line (replicate least_buffer 0) buffer a) where
  -- the record of a line that was answered is that of the line
  record-logged : record_bytes (fields_by (result a.answer buffer) a.minute a.last) ≡ logged table line
  unfolding logged
  record-logged = go (asked_in line) refl
    where
      go : (o : Option Asked) → asked_in line ≡ o → record_bytes (fields_by (result a.answer buffer) a.minute a.last) ≡ logged_for table o
      go None e = ap (λ r. record_bytes (fields_by r a.minute a.last)) (x.outcome ∙ rw e) ∙ refused_record a.minute a.last (replicate least_buffer 0)
      go (Some q) e = rw (x.outcome, x.minute, x.last, e)

  pub recorded : {old new : List ℕ} {r : Result Unit Unrecorded} {k : ℕ} → Records (result a.answer buffer) a.minute a.last old new r → k ≡ bytes_written r
      → (k ≡ length (record_within (length old) (logged table line))) × (new ≡ laid old 0 (record_within (length old) (logged table line)))
  recorded {old} w e =
      let f : Fields = fields_by (result a.answer buffer) a.minute a.last in
      rw (← record-logged) (e ∙ ap bytes_written w.answer ∙ recorded_count f old, w.bytes ∙ ap (λ r. bytes_recorded r old f) w.answer ∙ recorded_laid f old)

-- ---- the printed line of what was told is the response
module _ (table line : List ℕ) {old new : List ℕ} {u : Told} {r : Option ℕ} (w : Wrote old new 0 (printed u) r) (e : u ≡ told_for table (asked_in line)) (h : 2048 ≤ length old) where
  wrote_response : Wrote old new 0 (response table line) r
  unfolding response
  wrote_response = rw e at w

  pub response_fits : r ≡ None → ⊥
  response_fits f = fits wrote_response (omega (arith, response_length table line)) f

  pub responded : {n k : ℕ} (oldLog newLog : List ℕ) → r ≡ Some n → (k ≡ length (record_within (length oldLog) (logged table line))) × (newLog ≡ laid oldLog 0 (record_within (length oldLog) (logged table line))) → Responds table line old new oldLog newLog (Some (record { line = n; «record» = k }))
  responded oldLog newLog f l = let d = wrote_done wrote_response f in (h, response_length table line, omega (arith, d.1), wrote_response.bytes, l.0, l.1)
