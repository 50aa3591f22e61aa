-- Records worked by hand.
use Rattle.std.specs.Prelude.{Err, None, Ok, Option, Some}
use Rattle.question.specs.declared.Age.{Age}
use mathlib.Core.Path.{◌≡◌, refl}
use mathlib.Core.Bool.{true}
use mathlib.Core.List.{[], ◌∷◌}
use lib.IntN.{ℤ, pos, negsuc}
use Rattle.record.specs.declared.RecordFault.TheVariants.{OtherVersion, UnknownNumber, BadMinute, WrongLength}
use Rattle.record.specs.Layout.{packed_bits, unpacked_bits, bytes_of, number_from, is_below, size_of, age_from, bits_of, fields_of, packed}
use Rattle.record.specs.Stored.{known, keeps_auth, keeps_line, stored_age, stored_of}
use Rattle.record.specs.Read.{read_bits, record_in}

abbrev ago : ℤ → (Option Age)
ago z = Some (record { 0 = z })

-- a permit by line 7, Monday 10:00, auth, half an hour ago: 20 0007 0962 00001E
permit : packed (stored_of (record { number = 0; line = 7; minute = record { 0 = 600 }; auth = true; age = ago (pos 30) })) ≡ 32 ∷ 0 ∷ 7 ∷ 9 ∷ 98 ∷ 0 ∷ 0 ∷ 30 ∷ []
unfolding packed stored_of packed_bits bytes_of bits_of is_below size_of age_from stored_age keeps_auth keeps_line
permit = refl

-- no entry: neither line nor auth is kept; "never" is the sign alone
no_entry : packed (stored_of (record { number = 2; line = 7; minute = record { 0 = 0 }; auth = true; age = None })) ≡ 34 ∷ 0 ∷ 0 ∷ 0 ∷ 1 ∷ 0 ∷ 0 ∷ 0 ∷ []
unfolding packed stored_of packed_bits bytes_of bits_of is_below size_of age_from stored_age keeps_auth keeps_line
no_entry = refl

-- the last known number, the last minute, an age far below zero: 37 0000 9D7D FFFFFF
far_below : packed (stored_of (record { number = 23; line = 65535; minute = record { 0 = 10079 }; auth = true; age = ago (negsuc 2147483647) })) ≡ 55 ∷ 0 ∷ 0 ∷ 157 ∷ 125 ∷ 255 ∷ 255 ∷ 255 ∷ []
unfolding packed stored_of packed_bits bytes_of bits_of is_below size_of age_from stored_age keeps_auth keeps_line
far_below = refl

-- the reader takes any line and auth beside answer 2
any_bits : record_in (34 ∷ 0 ∷ 7 ∷ 0 ∷ 2 ∷ 0 ∷ 0 ∷ 0 ∷ []) ≡ Ok (record { number = 2; line = 7; minute = record { 0 = 0 }; auth = true; age = ago (pos 0) })
unfolding record_in read_bits unpacked_bits number_from fields_of age_from known
any_bits = refl

-- version before number before minute; nothing of seven bytes is looked at
in_order : (record_in (90 ∷ 0 ∷ 0 ∷ 255 ∷ 255 ∷ 0 ∷ 0 ∷ 0 ∷ []) ≡ Err OtherVersion) × (record_in (42 ∷ 0 ∷ 0 ∷ 255 ∷ 255 ∷ 0 ∷ 0 ∷ 0 ∷ []) ≡ Err UnknownNumber) × (record_in (32 ∷ 0 ∷ 0 ∷ 157 ∷ 128 ∷ 0 ∷ 0 ∷ 0 ∷ []) ≡ Err BadMinute) × (record_in (32 ∷ 0 ∷ 0 ∷ 0 ∷ 0 ∷ 0 ∷ 0 ∷ []) ≡ Err WrongLength)
unfolding record_in read_bits unpacked_bits number_from fields_of age_from known
in_order = (refl, refl, refl, refl)
