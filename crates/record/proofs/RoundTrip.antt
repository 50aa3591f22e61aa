-- Reading what was written gives the stored fields back, and one set of stored fields has one record (02 (ii)).
use Rattle.std.specs.Prelude.{Err, None, Ok, Result}
use mathlib.Core.Path.{◌≡◌, refl, sym, ap, ◌∙◌}
use mathlib.Core.Bool.{Bool, true, false, cond}
use mathlib.Core.List.{List}
use mathlib.Core.Logic.{◌⊎◌}
use Prim.Native.Nat.{ℕ, zero, suc, ◌+◌, ◌*◌, ◌/◌, ◌%◌, ◌≤◌, ◌<◌}
use native.Mathlib.Nat.{div-one, div-div-eq-div-mul, div-add-mod'}
use native.Mathlib.Omega.{arith}
use borrow.Author.Tests.{eq-eqb, lt-ltb, ltb-true, eqb-true}
use lib.Dec.{eqb, ltb}
use lib.ListN.{length}
use Rattle.text.proofs.Laws.{pick_of}
use Rattle.record.specs.declared.Fields.{Fields}
use Rattle.record.specs.declared.RecordFault.{RecordFault}
use Rattle.record.specs.declared.RecordFault.TheVariants.{OtherVersion, UnknownNumber, BadMinute, WrongLength}
use Rattle.record.specs.Layout.{record_length, Bits, flag, packed_bits, unpacked_bits, bytes_of, number_from, size_of, bits_of, fields_of, packed}
use Rattle.record.specs.Stored.{known, keeps_line, stored_of}
use Rattle.record.specs.Read.{read_bits, record_in, record_told}
use Rattle.record.specs.Write.{written_of, bytes_after, written_number}
use Rattle.record.specs.Contract.{all_bytes, Writes}
use Rattle.record.proofs.Ages.{age_back, sign_back, size_back, stored_most}
use Rattle.record.proofs.Keeping.{known_most, known_of}
use Rattle.record.proofs.Packing.{flag_most, bytes_length, bytes_back, number_whole, number_fits}

-- a record has eight bytes
pub packed_length : (f : Fields) → length (packed f) ≡ record_length
unfolding packed
packed_length f = bytes_length (packed_bits (bits_of f))

-- ---- fields and bits
flag_back : (t : Bool) (x : ℕ) → x ≡ flag t → eqb x 1 ≡ t
flag_back true x e = rw e
flag_back false x e = rw e

bit_back : (x : ℕ) → flag (eqb (x % 2) 1) ≡ x % 2
bit_back x = go (x % 2) (omega arith)
  where
    go : (b : ℕ) → b < 2 → flag (eqb b 1) ≡ b
    go zero h = refl
    go (suc zero) h = refl
    go (suc (suc b)) h = absurd (omega arith)

-- the fields that stand in a number
record Its (x v n l m a b s : ℕ) : Type 0 where
  version : x / 2305843009213693952 % 8 ≡ v
  number : x / 72057594037927936 % 32 ≡ n
  line : x / 1099511627776 % 65536 ≡ l
  minute : x / 67108864 % 16384 ≡ m
  auth : x / 33554432 % 2 ≡ a
  below : x / 16777216 % 2 ≡ b
  size : x / 1 % 16777216 ≡ s
  fits : x < 18446744073709551616

its : (x v n l m a b s : ℕ) → x ≡ (((((v * 32 + n) * 65536 + l) * 16384 + m) * 2 + a) * 2 + b) * 16777216 + s
    → v < 8 → n < 32 → l < 65536 → m < 16384 → a ≤ 1 → b ≤ 1 → s < 16777216 → Its x v n l m a b s
its x v n l m a b s e hv hn hl hm ha hb hs = omega arith

-- the bits above those of a field, and the field
above : (x k w : ℕ) → x / (k * w) * w + x / k % w ≡ x / k
above x k w = rw (← div-div-eq-div-mul x k w) (div-add-mod' (x / k) w)

module _ (x : ℕ) (h : x < 18446744073709551616) where
  top : x / 2305843009213693952 % 8 ≡ x / 2305843009213693952
  top = omega arith

  at_number : x / 2305843009213693952 * 32 + x / 72057594037927936 % 32 ≡ x / 72057594037927936
  at_number = above x 72057594037927936 32

  at_line_law : x / 72057594037927936 * 65536 + x / 1099511627776 % 65536 ≡ x / 1099511627776
  at_line_law = above x 1099511627776 65536

  at_minute : x / 1099511627776 * 16384 + x / 67108864 % 16384 ≡ x / 67108864
  at_minute = above x 67108864 16384

  at_auth : x / 67108864 * 2 + x / 33554432 % 2 ≡ x / 33554432
  at_auth = above x 33554432 2

  at_sign : x / 33554432 * 2 + x / 16777216 % 2 ≡ x / 16777216
  at_sign = above x 16777216 2

  at_size : x / 16777216 * 16777216 + x / 1 % 16777216 ≡ x
  at_size = above x 1 16777216 ∙ div-one x

  pub unpacked_back : packed_bits (unpacked_bits x) ≡ x
  unfolding packed_bits unpacked_bits
  unpacked_back = rw (bit_back (x / 33554432), bit_back (x / 16777216), top, at_number, at_line_law, at_minute, at_auth, at_sign) at_size

-- the fields fit their widths
pub record Narrow (b : Bits) : Type 0 where
  pub version : b.version < 8
  pub number : b.number < 32
  pub line : b.line < 65536
  pub minute : b.minute < 16384
  pub size : b.size < 16777216

module _ (b : Bits) (f : Narrow b) where
  its_fields : Its (packed_bits b) b.version b.number b.line b.minute (flag b.auth) (flag b.below) b.size
  unfolding packed_bits
  its_fields = its _ _ _ _ _ _ _ _ refl f.version f.number f.line f.minute (flag_most b.auth) (flag_most b.below) f.size

  pub packed_fits : packed_bits b < 18446744073709551616
  packed_fits = its_fields.fits

  pub packed_back : unpacked_bits (packed_bits b) ≡ b
  unfolding unpacked_bits
  packed_back =
      let i = its_fields in
      let a = flag_back b.auth _ i.auth in
      let s = flag_back b.below _ i.below in
      rw (i.version, i.number, i.line, i.minute, a, s, i.size)

-- ---- records
pub fields_back : (r : Fields) → fields_of (bits_of r) ≡ r
unfolding fields_of bits_of
fields_back r = rw (age_back r.age)

pub bits_back : (b : Bits) → b.version ≡ 1 → bits_of (fields_of b) ≡ b
unfolding fields_of bits_of
bits_back b e = rw (sign_back b.below b.size, size_back b.below b.size, e)

-- fields that a record can hold
pub record Storable (r : Fields) : Type 0 where
  pub number : known r.number ≡ true
  pub line : r.line < 65536
  pub minute : r.minute.0 < 10080
  pub age : size_of r.age ≤ 16777215

module _ (r : Fields) (h : Storable r) where
  narrow : Narrow (bits_of r)
  unfolding bits_of
  narrow = let k = known_most r.number h.number in record { version = omega arith; number = omega arith; line = h.line; minute = omega (arith, h.minute); size = omega (arith, h.age) }

  kept : read_bits (bits_of r) ≡ Ok r
  unfolding read_bits bits_of
  kept = rw (h.number, lt-ltb r.minute.0 10080 h.minute) (ap Ok (fields_back r))

  -- reading the bytes of stored fields gives these fields
  pub record_back : record_in (packed r) ≡ Ok r
  unfolding record_in packed
  record_back =
      let l = bytes_length (packed_bits (bits_of r)) in
      let n = bytes_back (packed_bits (bits_of r)) (packed_fits (bits_of r) narrow) in
      let b = packed_back (bits_of r) narrow in
      rw (eq-eqb (length (bytes_of (packed_bits (bits_of r)))) 8 l, n, b) kept

-- ---- what was read
picked : {A : Type 0} (t : Bool) (a : Result A RecordFault) (fault : RecordFault) (r : A) → cond t a (Err fault) ≡ Ok r → (t ≡ true) × (a ≡ Ok r)
picked true a fault r e = (refl, e)
picked false a fault r e = cc

-- what a reading that shows fields has passed
record Passed (s : List ℕ) (r : Fields) : Type 0 where
  long : length s ≡ 8
  version : (unpacked_bits (number_from s)).version ≡ 1
  number : known (unpacked_bits (number_from s)).number ≡ true
  minute : (unpacked_bits (number_from s)).minute < 10080
  fields : r ≡ fields_of (unpacked_bits (number_from s))

passed : (s : List ℕ) (r : Fields) → record_in s ≡ Ok r → Passed s r
unfolding record_in read_bits
passed s r e =
    let u : Bits = unpacked_bits (number_from s) in
    let p0 = picked (eqb (length s) 8) (read_bits u) WrongLength r e in
    let p1 = picked (eqb u.version 1) _ OtherVersion r p0.1 in
    let p2 = picked (known u.number) _ UnknownNumber r p1.1 in
    let p3 = picked (ltb u.minute 10080) (Ok (fields_of u)) BadMinute r p2.1 in
    record { long = eqb-true (length s) 8 p0.0; version = eqb-true u.version 1 p1.0; number = p2.0; minute = ltb-true u.minute 10080 p3.0; fields = cc }

module _ (s : List ℕ) (r : Fields) (e : record_in s ≡ Ok r) where
  -- eight bytes that read as fields are the record of these fields
  pub read_back : all_bytes s ≡ true → packed r ≡ s
  unfolding packed
  read_back a =
      let p = passed s r e in
      let u = bits_back (unpacked_bits (number_from s)) p.version in
      rw (p.fields, u, unpacked_back (number_from s) (number_fits s a)) (number_whole s a p.long)

  -- what is known of fields that were read
  pub read_known : Storable r
  unfolding fields_of unpacked_bits
  read_known =
      let p = passed s r e in
      rw p.fields (record { number = p.number; line = omega arith; minute = p.minute; age = rw (size_back (unpacked_bits (number_from s)).below (unpacked_bits (number_from s)).size) (omega arith) })

-- "one set of stored fields has one record": two records that read as the same fields are the same bytes
pub one_record : (s t : List ℕ) (r : Fields) → all_bytes s ≡ true → all_bytes t ≡ true → record_in s ≡ Ok r → record_in t ≡ Ok r → s ≡ t
one_record s t r a b e f = sym (read_back s r e a) ∙ read_back t r f b

-- ---- what was written
module _ (g : Fields) (old new : List ℕ) (w : Writes g old new (Ok tt)) where
  written_known : (known g.number ≡ true) × (g.minute.0 < 10080)
  unfolding written_of
  written_known =
      let p0 = picked (eqb (length old) 8) _ WrongLength tt (sym w.answer) in
      let p1 = picked (known g.number) _ UnknownNumber tt p0.1 in
      let p2 = picked (ltb g.minute.0 10080) (Ok tt) BadMinute tt p1.1 in
      (p1.0, ltb-true g.minute.0 10080 p2.0)

  stored_fits : g.line < 65536 → Storable (stored_of g)
  unfolding stored_of
  stored_fits h = record {
    number = written_known.0;
    line = pick_of (λ l. l < 65536) (keeps_line g.number) h (omega arith);
    minute = written_known.1;
    age = stored_most g.age;
  }

  -- "Reading what was written gives the stored fields back"
  pub written_back : g.line < 65536 → record_in new ≡ Ok (stored_of g)
  unfolding bytes_after
  written_back h = rw w.bytes (record_back (stored_of g) (stored_fits h))

-- every number but 10 and those that no answer has, with a minute of the week, is written into eight bytes
pub writer_takes : (g : Fields) → (g.number ≤ 5) ⊎ ((11 ≤ g.number) × (g.number ≤ 23)) → g.minute.0 ≤ 10079 → Ok tt ≡ written_of 8 g
unfolding written_of
writer_takes g k m = rw (known_of g.number k, lt-ltb g.minute.0 10080 (omega arith))

-- ---- what is refused
pub refused_shows_nothing : (r : Result Fields RecordFault) → ((record_told r).number ≡ 0 → ⊥) → (record_told r).shown ≡ None
unfolding record_told
refused_shows_nothing (Ok f) h = absurd (h refl)
refused_shows_nothing (Err fault) h = refl

-- and the writer leaves the bytes as they were
pub refused_writes_nothing : (g : Fields) (old new : List ℕ) (r : Result Unit RecordFault) → Writes g old new r → (written_number r ≡ 0 → ⊥) → new ≡ old
unfolding written_number bytes_after
refused_writes_nothing g old new (Ok done) w h = absurd (h refl)
refused_writes_nothing g old new (Err fault) w h = w.bytes

-- the numbers of the refusals, in their order
pub write_order : (size : ℕ) (g : Fields) → written_number (written_of size g) ≡ cond (eqb size 8) (cond (known g.number) (cond (ltb g.minute.0 10080) 0 3) 2) 4
unfolding written_number written_of
write_order size g = go (eqb size 8) (known g.number) (ltb g.minute.0 10080)
  where
    go : (a b c : Bool) → written_number (cond a (cond b (cond c (Ok tt) (Err BadMinute)) (Err UnknownNumber)) (Err WrongLength)) ≡ cond a (cond b (cond c 0 3) 2) 4
    go true true true = refl
    go true true false = refl
    go true false c = refl
    go false b c = refl

pub read_order : (s : List ℕ) → let u : Bits = unpacked_bits (number_from s) in (record_told (record_in s)).number ≡ cond (eqb (length s) 8) (cond (eqb u.version 1) (cond (known u.number) (cond (ltb u.minute 10080) 0 3) 2) 1) 4
unfolding record_told record_in read_bits
read_order s =
    let u : Bits = unpacked_bits (number_from s) in
    go (fields_of u) (eqb (length s) 8) (eqb u.version 1) (known u.number) (ltb u.minute 10080)
  where
    go : (r : Fields) (a b c d : Bool) → (record_told (cond a (cond b (cond c (cond d (Ok r) (Err BadMinute)) (Err UnknownNumber)) (Err OtherVersion)) (Err WrongLength))).number ≡ cond a (cond b (cond c (cond d 0 3) 2) 1) 4
    go r true true true true = refl
    go r true true true false = refl
    go r true true false d = refl
    go r true false c d = refl
    go r false b c d = refl
