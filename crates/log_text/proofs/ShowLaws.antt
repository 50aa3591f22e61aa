-- The laws of the lines that wait: none has more than 32 bytes, and each stands behind those before it. Assumes nothing.
use Rattle.std.specs.Prelude.{None, Option, Some, Result, Ok, Err, unwrap_or}
use Rattle.question.specs.declared.Age.{Age}
use mathlib.Core.Path.{◌≡◌, refl, sym, ◌∙◌}
use mathlib.Core.Bool.{Bool, true, false, cond}
use mathlib.Core.List.{List, [], ◌++◌}
use Prim.Native.Nat.{ℕ, ◌+◌, ◌≤◌, ◌<◌}
use native.Mathlib.Omega.{arith}
use lib.IntN.{ℤ, pos, nat_abs}
use lib.Signed.{lt_z}
use lib.ListN.{length, length-append}
use Rattle.text.specs.Bytes.{bytes}
use Rattle.text.specs.Contract.{Wrote}
use Rattle.text.proofs.Buffers.{up_full, wrote_length, wrote_done, wrote_read}
use Rattle.output.specs.Decimal.{decimal}
use Rattle.output.proofs.DecimalLaws.{decimal_digits}
use Rattle.record.specs.declared.Fields.{Fields}
use Rattle.record.specs.declared.RecordFault.{RecordFault}
use Rattle.record.specs.declared.RecordFault.TheVariants.{OtherVersion, UnknownNumber, BadMinute, WrongLength}
use Rattle.record.specs.Fault.{fault_number}
use Rattle.record.specs.Layout.{size_of}
use Rattle.record.specs.Stored.{largest_size}
use Rattle.record.specs.Read.{record_in}
use Rattle.record.proofs.Keeping.{known_most}
use Rattle.record.proofs.RoundTrip.{Storable, read_known}
use Rattle.log_text.specs.Printed.{minutes_text, age_text, auth_text, fields_text, refused_text, record_text}
use Rattle.log_text.specs.Contract.{Added}

-- ---- how long a line is
auth_length : (auth : Bool) → length (auth_text auth) ≤ 1
unfolding auth_text
auth_length true = omega arith
auth_length false = omega arith

minutes_length : (z : ℤ) → nat_abs z ≤ largest_size → length (minutes_text z) ≤ 9
unfolding minutes_text
minutes_length z h =
    let k : nat_abs z < 100000000 = omega arith in
    let d = decimal_digits 7 (nat_abs z) k in
    go (lt_z z (pos 0)) d
  where
    go : (t : Bool) → length (decimal (nat_abs z)) ≤ 8 → length (cond t (bytes "-") [] ++ decimal (nat_abs z)) ≤ 9
    go true h = omega (arith, length-append (bytes "-") (decimal (nat_abs z)))
    go false h = omega arith

age_length : (age : Option Age) → size_of age ≤ largest_size → length (age_text age) ≤ 9
unfolding age_text size_of
age_length None h = omega arith
age_length (Some a) h = minutes_length a.0 h

fields_length_law : (f : Fields) → Storable f → length (fields_text f) ≤ 32
unfolding fields_text
fields_length_law f s =
    let k : f.number < 100000 = omega (arith, known_most f.number s.number) in
    let n = decimal_digits 4 f.number k in
    let l = decimal_digits 4 f.line (omega (arith, s.line)) in
    let m = decimal_digits 4 f.minute.0 (omega (arith, s.minute)) in
    simp length-append (omega (arith, n, l, m, auth_length f.auth, age_length f.age s.age))

refused_length : (n : ℕ) → n < 10 → length (refused_text n) ≤ 32
unfolding refused_text
refused_length n h = simp length-append (omega (arith, decimal_digits 0 n h))

number_short : (fault : RecordFault) → fault_number fault < 10
number_short OtherVersion = omega arith
number_short UnknownNumber = omega arith
number_short BadMinute = omega arith
number_short WrongLength = omega arith

-- no line has more than 32 bytes
pub line_length : (s : List ℕ) → length (record_text (record_in s)) ≤ 32
unfolding record_text
line_length s = go (record_in s) refl
  where
    go : (r : Result Fields RecordFault) → record_in s ≡ r → length (record_text r) ≤ 32
    go (Ok f) e = fields_length_law f (read_known s f e)
    go (Err fault) e = refused_length (fault_number fault) (number_short fault)

-- so that there is always room for it
pub line_fits : (s : List ℕ) {old new : List ℕ} {n : ℕ} {r : Option ℕ} → Wrote old new n (record_text (record_in s)) r → n + 32 ≤ length old → r ≡ None → ⊥
line_fits s {old} {new} {n} w h e = let k = up_full (length old) (n + length (record_text (record_in s))) (sym w.answer ∙ e) in omega (arith, line_length s)

pub added_line : (s : List ℕ) {old new : List ℕ} {n : ℕ} {r : Option ℕ} → Wrote old new n (record_text (record_in s)) r → n + 32 ≤ length old → Added (record_text (record_in s)) old n new (unwrap_or r n)
added_line s {old} {new} {n} {r} w h = go r refl
  where
    go : (q : Option ℕ) → r ≡ q → Added (record_text (record_in s)) old n new (unwrap_or q n)
    go (Some k) e = record { within = omega (arith, (wrote_done w e).0, wrote_length w); text_behind = wrote_read w e }
    go None e = absurd (line_fits s w h e)
