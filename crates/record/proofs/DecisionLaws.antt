-- The record of what the call answered: every answer but 10 has a record (02 (ii)).
use Rattle.std.specs.Prelude.{None, Ok, Option, Some}
use mathlib.Core.Path.{◌≡◌, refl, ap}
use mathlib.Core.Bool.{Bool, true, false, cond}
use mathlib.Core.List.{List}
use mathlib.Core.Logic.{◌⊎◌, inl, inr}
use Prim.Native.Nat.{ℕ, ◌≤◌}
use native.Mathlib.Omega.{arith}
use borrow.Author.Tests.{lt-ltb}
use lib.Dec.{leb}
use lib.ListN.{length}
use Rattle.fault.proofs.Numbers.{cause_number}
use Rattle.question.specs.Question.{Question}
use Rattle.question.proofs.Told.{question_told, good_told}
use Rattle.answer.specs.declared.Answer.{Answer}
use Rattle.answer.specs.declared.Answer.TheVariants.{Permit, Password, NoEntry, StoppedByNargs, StoppedByArgument, StoppedByPath, MalformedQuestion, LongTable, RefusedByte, CutShort, RefusedLine, SmallBuffer}
use Rattle.line.specs.Line.{table_limit}
use Rattle.answer.specs.Answer.{least_buffer, result, grant_in, told_of, told_by, deciding_line}
use Rattle.answer.specs.Meaning.{Asked, asks, read_table, answer_of}
use Rattle.record.specs.Layout.{record_length}
use Rattle.record.specs.Decision.{fields_by, line_limit, by_writer, recorded_of}
use Rattle.record.proofs.RoundTrip.{writer_takes}
use Rattle.record.proofs.WithinLaws.{Within, answer_within}

-- ---- every answer of the call but 10 is taken
-- "0 to 5 are decisions, 10 to 18 refusals"
pub numbers : (a : Answer) (b : List ℕ) → ((told_of a b).number ≤ 5) ⊎ ((10 ≤ (told_of a b).number) × ((told_of a b).number ≤ 18))
unfolding told_of
numbers (Permit g) b = inl (omega arith)
numbers (Password g) b = inl (omega arith)
numbers NoEntry b = inl (omega arith)
numbers (StoppedByNargs l) b = inl (omega arith)
numbers (StoppedByArgument l) b = inl (omega arith)
numbers (StoppedByPath l) b = inl (omega arith)
numbers MalformedQuestion b = inr (omega arith, omega arith)
numbers LongTable b = inr (omega arith, omega arith)
numbers (RefusedByte p) b = inr (omega arith, omega arith)
numbers (CutShort p) b = inr (omega arith, omega arith)
numbers (RefusedLine c p) b = let k = cause_number c in inr (omega (arith, k.0), k.1)
numbers SmallBuffer b = inr (omega arith, omega arith)

-- the deciding line is one of the numbers that an answer tells
line_within : (n : ℕ) (a : Answer) (b : List ℕ) → Within n a → deciding_line (result a b) ≤ n
unfolding deciding_line told_of grant_in
line_within n (Permit g) b w = w.line
line_within n (Password g) b w = w.line
line_within n NoEntry b w = omega arith
line_within n (StoppedByNargs l) b w = w
line_within n (StoppedByArgument l) b w = w
line_within n (StoppedByPath l) b w = w
line_within n MalformedQuestion b w = omega arith
line_within n LongTable b w = omega arith
line_within n (RefusedByte p) b w = omega arith
line_within n (CutShort p) b w = omega arith
line_within n (RefusedLine c p) b w = omega arith
line_within n SmallBuffer b w = omega arith

module _ (t : List ℕ) (a : Asked) (b : List ℕ) where
  -- no answer of the call has a line that 16 bits do not hold
  pub line_fits : deciding_line (answer_of t a b) ≤ table_limit
  line_fits = line_within table_limit (answer_of t a b).answer (answer_of t a b).buffer (answer_within t a b)

  -- the record of an answer is written, where it is not 10 and the minute is one of the week
  pub answer_taken : ((told_by (answer_of t a b)).number ≡ 10 → ⊥) → a.minute.0 ≤ 10079 → Ok tt ≡ recorded_of record_length (fields_by (answer_of t a b) a.minute a.age)
  unfolding recorded_of fields_by
  answer_taken h m =
      rw (lt-ltb (deciding_line (answer_of t a b)) line_limit (omega (arith, line_fits))) (ap by_writer (writer_takes _ (go (numbers (answer_of t a b).answer (answer_of t a b).buffer)) m))
    where
      go : ((told_by (answer_of t a b)).number ≤ 5) ⊎ ((10 ≤ (told_by (answer_of t a b)).number) × ((told_by (answer_of t a b)).number ≤ 18)) → ((told_by (answer_of t a b)).number ≤ 5) ⊎ ((11 ≤ (told_by (answer_of t a b)).number) × ((told_by (answer_of t a b)).number ≤ 23))
      go (inl k) = inl k
      go (inr k) = inr (omega (arith, k.0), omega (arith, k.1))

  -- only 10 and 17 come with a minute that is none of the week
  pub minute_taken : ((told_by (answer_of t a b)).number ≡ 10 → ⊥) → ((told_by (answer_of t a b)).number ≡ 17 → ⊥) → a.minute.0 ≤ 10079
  unfolding answer_of told_of
  minute_taken h k = room (leb least_buffer (length b)) h k
    where
      good : (q : Option Question) → asks a ≡ q → ((told_by (read_table t b q)).number ≡ 10 → ⊥) → a.minute.0 ≤ 10079
      good None e i = absurd (i refl)
      good (Some q) e i =
          let u = question_told a.command a.user a.groups a.host a.minute a.age a.args q e in
          omega (arith, u.its_minute_law, (good_told q u.good).minute)

      room : (x : Bool) → ((told_by (cond x (read_table t b (asks a)) (result SmallBuffer b))).number ≡ 10 → ⊥) → ((told_by (cond x (read_table t b (asks a)) (result SmallBuffer b))).number ≡ 17 → ⊥) → a.minute.0 ≤ 10079
      room true i j = good (asks a) refl i
      room false i j = absurd (j refl)
