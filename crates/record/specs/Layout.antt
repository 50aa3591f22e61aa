-- The eight bytes of a record: "bit-packed fields, most significant first" (02 (ii)).
use Rattle.question.specs.declared.Age.{Age}
use Rattle.std.specs.Prelude.{ℕ, zero, suc, ◌+◌, ◌*◌, ◌/◌, ◌%◌, ◌^◌, Bool, true, false, List, eqb, pos, negsuc, nat_abs, None, Option, Some}
use Rattle.std.specs.Int.{w64, to_be_bytes, from_be_bytes}
use Rattle.std.specs.Int.Signed.{lt_z}
use Rattle.record.specs.declared.Fields.{Fields}

-- the bytes of a record
abbrev pub record_length : ℕ
record_length = 8

-- "version 3 bits (1)"
abbrev pub record_version : ℕ
record_version = 1

-- the fields as bits: "version 3 bits (1), answer number 5, line 16 .., minute of the week 14, effective auth 1, age below zero 1, size of the age 24"
pub record Bits : Type 0 where
  pub version : ℕ
  pub number : ℕ
  pub line : ℕ
  pub minute : ℕ
  pub auth : Bool
  pub below : Bool
  pub size : ℕ

-- one bit as a number
abbrev pub flag : Bool → ℕ
flag true = 1
flag false = 0

-- the 64 bits as a number: the fields in their order, each behind those before it
unfoldable pub packed_bits : Bits → ℕ
packed_bits b =
    (((((b.version * 2 ^ 5 + b.number) * 2 ^ 16 + b.line) * 2 ^ 14 + b.minute) * 2 + flag b.auth) * 2 + flag b.below) * 2 ^ 24 + b.size

-- w bits of a number that stand above its lowest k
abbrev pub bits_at : (k w n : ℕ) → ℕ
bits_at k w n = n / 2 ^ k % 2 ^ w

-- the fields of 64 bits
unfoldable pub unpacked_bits : ℕ → Bits
unpacked_bits n = record {
  version = bits_at 61 3 n;
  number = bits_at 56 5 n;
  line = bits_at 40 16 n;
  minute = bits_at 26 14 n;
  auth = eqb (bits_at 25 1 n) 1;
  below = eqb (bits_at 24 1 n) 1;
  size = bits_at 0 24 n;
}

-- the eight bytes of a number, most significant first
unfoldable pub bytes_of : ℕ → List ℕ
bytes_of n = to_be_bytes w64 n

-- the number of eight bytes, most significant first
unfoldable pub number_from : List ℕ → ℕ
number_from s = from_be_bytes w64 s

-- "`Never` is the sign bit with size 0"
unfoldable pub is_below : (Option Age) → Bool
is_below None = true
is_below (Some a) = lt_z a.0 (pos 0)

unfoldable pub size_of : (Option Age) → ℕ
size_of None = 0
size_of (Some a) = nat_abs a.0

-- the age of a sign and a size
unfoldable pub age_from : (below : Bool) → (size : ℕ) → (Option Age)
age_from false n = Some (record { 0 = pos n })
age_from true zero = None
age_from true (suc n) = Some (record { 0 = negsuc n })

-- the fields as bits
unfoldable pub bits_of : Fields → Bits
bits_of f = record {
  version = record_version;
  number = f.number;
  line = f.line;
  minute = f.minute.0;
  auth = f.auth;
  below = is_below f.age;
  size = size_of f.age;
}

-- and the bits as fields
unfoldable pub fields_of : Bits → Fields
fields_of b = record {
  number = b.number;
  line = b.line;
  minute = record { 0 = b.minute };
  auth = b.auth;
  age = age_from b.below b.size;
}

-- the eight bytes of fields
unfoldable pub packed : Fields → List ℕ
packed f = bytes_of (packed_bits (bits_of f))
