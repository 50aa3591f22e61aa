-- What the contracts of the readers and of the writer say.
use Rattle.std.specs.Prelude.{◌≡◌, Bool, true, ◌&&◌, List, ℕ, ◌+◌, ◌/◌, ◌%◌, ◌≤◌, min, eqb, length, take, None, Option, Some}
use Rattle.streams.specs.declared.identity.Identity.{Identity}
use Rattle.streams.specs.declared.standard_output.Output.{Output}

-- a count of first bytes: they are there, and are as many
abbrev pub IsPrefixLen : ℕ → List ℕ → Type 0
IsPrefixLen n xs = (n ≤ length xs) × (n ≡ length (take n xs))

-- how many bytes are told
abbrev pub bytes_told : Option ℕ → ℕ
bytes_told (Some n) = n
bytes_told None = 0

-- as many bytes as are told stand at the buffer's beginning
pub record LoadedIn (buffer : List ℕ) (r : Option ℕ) : Type 0 where
  pub counted : IsPrefixLen (bytes_told r) buffer

-- a count with so many more, up to the largest number of 64 bits
unfoldable pub counted_on : (count more : ℕ) → ℕ
counted_on count more = min (count + more) 18446744073709551615

-- bytes were handed on: they are counted, and a failure stays
pub record Prints (bytes : List ℕ) (before after : Output) : Type 0 where
  pub handed : after.handed ≡ counted_on before.handed (length bytes)
  pub whole : after.whole ≡ true → before.whole ≡ true

-- POSIX: four bits of a mode tell the kind of file; in Linux they stand above twelve others, and 8 is a regular file
unfoldable pub regular_mode : ℕ → Bool
regular_mode mode = eqb (mode / 4096 % 16) 8

-- both are the same regular file
unfoldable pub same_file : (file other : Identity) → Bool
same_file file other = file.regular && other.regular && (eqb file.device other.device && eqb file.number other.number)
