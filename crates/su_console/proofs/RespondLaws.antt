-- The laws of the call that answers a question line. Assumes nothing.
use Rattle.std.specs.Prelude.{None, Option, Some}
use mathlib.Core.Path.{◌≡◌, refl}
use mathlib.Core.List.{List}
use Prim.Native.Nat.{ℕ, ◌+◌, ◌≤◌}
use native.Mathlib.Omega.{arith}
use lib.ListN.{length}
use Rattle.text.specs.Buffer.{laid}
use Rattle.text.specs.Contract.{Wrote}
use Rattle.text.proofs.Buffers.{wrote_done}
use Rattle.suauth.specs.declared.SuAnswer.{SuAnswer}
use Rattle.suauth.specs.declared.SuAnswer.TheVariants.{MalformedQuestion}
use Rattle.suauth.specs.Answer.{told_of}
use Rattle.suauth.specs.Meaning.{answer_of}
use Rattle.record.specs.Contract.{record_within}
use Rattle.console.specs.Contract.{part, least_room}
use Rattle.console.proofs.PartLaws.{fits}
use Rattle.su_console.specs.QuestionLine.{su_asked_in}
use Rattle.su_console.specs.Printed.{su_printed}
use Rattle.su_console.specs.Response.{su_answer_for, su_response}
use Rattle.su_console.specs.Contract.{su_asked_by, SuPlaced, SuReads, SuResponds}
use Rattle.su_console.specs.declared.question_line.SuPieces.{SuPieces}

-- a line that was read
module _ {line scratch : List ℕ} {r : (Option SuPieces)} (w : SuReads line (su_asked_in line) scratch r) where
  pub malformed_answer : (file : List ℕ) → r ≡ None → MalformedQuestion ≡ su_answer_for file (su_asked_in line)
  malformed_answer file e =
      let n : None ≡ su_asked_in line = rw e at w.asks in
      rw (← n)

  pub pieces_placed : {p : SuPieces} → r ≡ Some p → SuPlaced line (Some p)
  pieces_placed e = rw e at w.placed

  pub asked_answer : (file : List ℕ) {p : SuPieces} {a : SuAnswer} → r ≡ Some p → a ≡ answer_of file (record { target = part line 0 p.target; user = part line (p.target + 1) p.user; groups = part scratch 0 p.groups }) → a ≡ su_answer_for file (su_asked_in line)
  asked_answer file {p} e f =
      let s : su_asked_by line scratch (Some p) ≡ su_asked_in line = rw e at w.asks in
      rw (← s) f

-- the printed line of the answer is the response
module _ (file line : List ℕ) {old new : List ℕ} {a : SuAnswer} {r : Option ℕ} (w : Wrote old new 0 (su_printed (told_of a)) r × (length (su_printed (told_of a)) ≤ least_room)) (e : a ≡ su_answer_for file (su_asked_in line)) (h : least_room ≤ length old) where
  pub response_fits : r ≡ None → ⊥
  response_fits f = fits w.0 (omega (arith, w.1)) f

  pub responded : {n : ℕ} → r ≡ Some n → SuResponds file line old new (Some (record { line = n; «record» = 0 }))
  unfolding su_response record_within laid
  responded f =
      let d = wrote_done w.0 f in
      (h, rw (← e) w.1, rw (← e) (omega (arith, d.1)), rw (← e) w.0.bytes, refl, refl)
