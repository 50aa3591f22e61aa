-- The fields of a scanned line from one of them on, and what was read of one.
use Rattle.std.specs.Prelude.{Ok, Result}
use mathlib.Core.Path.{◌≡◌}
use mathlib.Core.List.{List, [], ◌∷◌}
use Prim.Native.Nat.{ℕ, ◌+◌, ◌≤◌, ◌<◌, min}
use native.Mathlib.Omega.{arith}
use lib.ListN.{length, take, drop, get_or, drop_of_length-le}
use Rattle.text.proofs.Laws.{next_of}
use Rattle.fault.specs.declared.Cause.{Cause}
use Rattle.line.specs.Contract.{fields_in}
use Rattle.line.proofs.AccessLaws.{fields_count}
use Rattle.variables.specs.Contract.{text_reading, length_told, checked_reading}

-- m is the number of fields, as `at_most` tells it
module _ (text ends : List ℕ) (count : ℕ) {m : ℕ} (e : m ≡ min count 64) (i : ℕ) where
  -- past the last field there is none
  pub fields_end : m ≤ i → drop i (fields_in text ends count) ≡ []
  fields_end h = let k : length (fields_in text ends count) ≤ i = omega (arith, fields_count text ends count) in drop_of_length-le (fields_in text ends count) k

  -- before that there is the field that `field` gives, and those behind it
  pub fields_next : {f : List ℕ} → i < m → f ≡ get_or (fields_in text ends count) i [] → drop i (fields_in text ends count) ≡ f ∷ drop (i + 1) (fields_in text ends count)
  fields_next h g = let k : i < length (fields_in text ends count) = omega (arith, fields_count text ends count) in rw g (next_of [] (fields_in text ends count) i k)

-- what an answer tells of a text in a buffer
module _ (out : List ℕ) {r : (Result ℕ Cause)} {o : Result (List ℕ) Cause} (w : text_reading out r ≡ o) where
  pub reading_text : {n : ℕ} → r ≡ Ok n → Ok (take n out) ≡ o
  reading_text e = rw e at w

pub length_fits : {r : (Result ℕ Cause)} {n m : ℕ} → length_told r ≤ m → r ≡ Ok n → n ≤ m
length_fits h e = rw e at h

-- what a check tells
module _ (t : List ℕ) {r : (Result Unit Cause)} {o : Result (List ℕ) Cause} (w : checked_reading r t ≡ o) where
  pub checked_good : r ≡ (Ok tt) → Ok t ≡ o
  checked_good e = rw e at w
