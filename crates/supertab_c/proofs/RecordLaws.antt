-- The calls on log records, each as a whole. Assumes nothing.
use Rattle.std.specs.Prelude.{Option, Ok, Err, Result}
use mathlib.Core.Path.{◌≡◌, sym, ap, ◌∙◌}
use mathlib.Core.Bool.{Bool}
use mathlib.Core.List.{List, ◌++◌}
use Prim.Native.Nat.{ℕ, ◌≤◌, ◌<◌}
use borrow.Author.Tests.{le-leb, lt-leb}
use lib.IntN.{ℤ}
use lib.ListN.{length, drop}
use Rattle.question.specs.declared.Age.{Age}
use Rattle.question.specs.declared.WeekMinute.{WeekMinute}
use Rattle.record.specs.declared.Fields.{Fields}
use Rattle.record.specs.declared.RecordFault.{RecordFault}
use Rattle.record.specs.Fault.{fault_number}
use Rattle.record.specs.Write.{written_number}
use Rattle.record.specs.Contract.{Writes}
use Rattle.record.specs.Read.{record_in, record_told}
use Rattle.supertab_c.specs.Call.{minute_of, last_of, short_report}
use Rattle.supertab_c.specs.Record.{given_by, wrote_record, write_call, fields_length, field_numbers, read_numbers, tells_record, read_call}
use mir.Syntax.{w32}
use mir.Val.{SFits, to_z, of_z}
use mir.ValLaws.{to_z-of_z}

-- ---- writing
module _ (number line minute : ℕ) (auth authenticated : Bool) (age : ℤ) (old : List ℕ) {m : WeekMinute} {l : Option Age} where
  pub record_written : {new : List ℕ} {w : Result Unit RecordFault} {n : ℕ}
      → m ≡ minute_of minute
      → SFits w32 age
      → l ≡ last_of authenticated (to_z w32 (of_z w32 age))
      → Writes (record { number = number; line = line; minute = m; auth = auth; age = l }) old new w
      → n ≡ written_number w
      → wrote_record n new ≡ write_call (given_by number line minute auth authenticated age) old
  unfolding write_call given_by
  record_written {new} {w} {n} em f el x e =
      let k = el ∙ ap (last_of authenticated) (to_z-of_z w32 age f) in
      rw (sym em, sym k, sym x.answer, e, x.bytes)

pub written : {w : Result Unit RecordFault} {u : Unit} → w ≡ Ok u → 0 ≡ written_number w
unfolding written_number
written e = rw e

pub refused : {w : Result Unit RecordFault} {x : RecordFault} {n : ℕ} → w ≡ Err x → n ≡ fault_number x → n ≡ written_number w
unfolding written_number
refused e k = rw (e, k)

-- ---- reading
-- too few numbers are told first, and nothing is written
pub read_short : (s : List ℕ) (old : List ℤ) → length old < fields_length → read_numbers short_report old ≡ read_call s old
unfolding read_call
read_short s old h = rw (lt-leb fields_length (length old) h)

module _ (s : List ℕ) (old : List ℤ) (h : fields_length ≤ length old) (r : Result Fields RecordFault) (e : r ≡ record_in s) where
  told : read_call s old ≡ tells_record (record_told r) old
  unfolding read_call
  told = rw (le-leb fields_length (length old) h, e)

  pub read_stored : (f : Fields) (new : List ℤ) → r ≡ Ok f → new ≡ field_numbers f ++ drop fields_length old → read_numbers 0 new ≡ read_call s old
  unfolding tells_record record_told
  read_stored f new k n = rw n (sym (told ∙ rw k))

  pub read_refused : (x : RecordFault) (n : ℕ) → r ≡ Err x → n ≡ fault_number x → read_numbers n old ≡ read_call s old
  unfolding tells_record record_told
  read_refused x n k q = rw q (sym (told ∙ rw k))
