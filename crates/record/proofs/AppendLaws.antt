-- What is written into lent bytes is the record that a log gets, or nothing. Assumes nothing.
use Rattle.std.specs.Prelude.{Err, Ok, Result, is_ok}
use mathlib.Core.Path.{◌≡◌, refl, sym, ◌∙◌}
use mathlib.Core.Bool.{Bool, true, false, cond}
use mathlib.Core.List.{List, [], ◌++◌, append-nil}
use Prim.Native.Nat.{ℕ, ◌+◌, ◌≤◌}
use native.Mathlib.Omega.{arith}
use borrow.Author.Tests.{eqb-true}
use lib.Dec.{eqb, ltb}
use lib.ListN.{length, take, drop, drop_of_length-le}
use Rattle.text.specs.Buffer.{laid}
use Rattle.text.proofs.Buffers.{laid_is}
use Rattle.question.specs.Question.{week_minutes}
use Rattle.record.specs.declared.Fields.{Fields}
use Rattle.record.specs.declared.RecordFault.TheVariants.{OtherVersion, UnknownNumber, BadMinute, WrongLength}
use Rattle.record.specs.declared.Unrecorded.{Unrecorded}
use Rattle.record.specs.declared.Unrecorded.TheVariants.{Writer, LongLine}
use Rattle.record.specs.Layout.{record_length, packed}
use Rattle.record.specs.Stored.{known, stored_of}
use Rattle.record.specs.Write.{written_of}
use Rattle.record.specs.Decision.{line_limit, by_writer, recorded_of, bytes_recorded, record_bytes, recorded_number}
use Rattle.record.specs.Contract.{record_within, bytes_written}
use Rattle.record.proofs.RoundTrip.{packed_length}

-- bytes laid over as many others
laid_over : (old xs : List ℕ) → length xs ≡ length old → laid old 0 xs ≡ xs
laid_over old xs e =
    let k : length old ≤ 0 + length xs = omega arith in
    let r : take 0 old ++ xs ++ drop (0 + length xs) old ≡ xs = rw (drop_of_length-le old k) (append-nil xs) in
    laid_is old 0 xs (omega arith) ∙ r

-- the answer by its tests: the line fits, there are eight bytes, the number is known, the minute is good
abbrev answered : (line eight number minute : Bool) → Result Unit Unrecorded
answered line eight number minute = cond line (by_writer (cond eight (cond number (cond minute (Ok tt) (Err BadMinute)) (Err UnknownNumber)) (Err WrongLength))) (Err LongLine)

module _ (f : Fields) (old : List ℕ) where
  placed : (line eight number minute : Bool) → (eight ≡ true → length old ≡ record_length) → bytes_recorded (answered line eight number minute) old f ≡ laid old 0 (cond eight (bytes_recorded (answered line true number minute) [] f) [])
  unfolding bytes_recorded laid
  placed true true true true e = sym (laid_over old (packed (stored_of f)) (packed_length (stored_of f) ∙ sym (e refl)))
  placed true true true false e = refl
  placed true true false m e = refl
  placed true false n m e = refl
  placed false true n m e = refl
  placed false false n m e = refl

  counted : (line eight number minute : Bool) → bytes_written (answered line eight number minute) ≡ length (cond eight (bytes_recorded (answered line true number minute) [] f) [])
  unfolding bytes_written recorded_number bytes_recorded
  counted true true true true = sym (packed_length (stored_of f))
  counted true true true false = refl
  counted true true false m = refl
  counted true false n m = refl
  counted false true n m = refl
  counted false false n m = refl

  -- the lent bytes afterwards
  pub recorded_laid : bytes_recorded (recorded_of (length old) f) old f ≡ laid old 0 (record_within (length old) (record_bytes f))
  unfolding recorded_of written_of record_bytes record_within
  recorded_laid = placed (ltb f.line line_limit) (eqb (length old) record_length) (known f.number) (ltb f.minute.0 week_minutes) (λ e. eqb-true (length old) record_length e)

  -- and how many of them were written
  pub recorded_count : bytes_written (recorded_of (length old) f) ≡ length (record_within (length old) (record_bytes f))
  unfolding recorded_of written_of record_bytes record_within
  recorded_count = counted (ltb f.line line_limit) (eqb (length old) record_length) (known f.number) (ltb f.minute.0 week_minutes)

-- eight bytes are written where there is no refusal, and none else
pub bytes_by : (r : Result Unit Unrecorded) → bytes_written r ≡ cond (is_ok r) record_length 0
unfolding bytes_written recorded_number
bytes_by (Ok tt) = refl
bytes_by (Err (Writer OtherVersion)) = refl
bytes_by (Err (Writer UnknownNumber)) = refl
bytes_by (Err (Writer BadMinute)) = refl
bytes_by (Err (Writer WrongLength)) = refl
bytes_by (Err LongLine) = refl

-- a log gets eight bytes at most
pub bytes_most : (f : Fields) → length (record_bytes f) ≤ record_length
unfolding record_bytes recorded_of written_of bytes_recorded
bytes_most f = go (ltb f.line line_limit) (known f.number) (ltb f.minute.0 week_minutes)
  where
    go : (line number minute : Bool) → length (bytes_recorded (answered line true number minute) [] f) ≤ record_length
    go true true true = omega (arith, packed_length (stored_of f))
    go true true false = omega arith
    go true false m = omega arith
    go false n m = omega arith
