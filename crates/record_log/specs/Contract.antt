-- What the contracts of the functions that look at a file say.
use Rattle.std.specs.Prelude.{◌≡◌, true, List, ◌++◌, ℕ, ◌%◌, eqb, Option, Some, None, length, take}
use Rattle.record.specs.Layout.{record_length}
use Rattle.record_log.specs.Recognised.{seen_in}
use Rattle.record_log.specs.declared.opening.Looking.{Looking}
use Rattle.record_log.specs.declared.recognise.Seen.{Seen}

-- a block stands behind whole records: what was seen of them becomes what is seen of them with it
abbrev pub Looks : List ℕ → (before after : Seen) → Type 0
Looks block before after = (bytes : List ℕ) → length bytes % record_length ≡ 0 → before ≡ seen_in bytes → after ≡ seen_in (bytes ++ block)

-- these bytes were read of a file; where there is more to read, it begins at a record
pub record Looked (bytes : List ℕ) (r : Looking) : Type 0 where
  pub seen : r.seen ≡ seen_in bytes
  pub whole : r.going ≡ true → length bytes % record_length ≡ 0

-- bytes that were read were looked at: all of them stand behind those before; there is more to read where they fill a block of so many, and only there
pub record LooksOn (read : List ℕ) (room : ℕ) (before after : Looking) : Type 0 where
  pub looked : (bytes : List ℕ) → Looked bytes before → Looked (bytes ++ read) after
  pub going : after.going ≡ eqb (length read) room

-- what a read told was looked at: so many bytes of the block; there is nothing behind one that failed
abbrev pub LooksAt : Option ℕ → (block : List ℕ) → Looking → Option Looking → Type 0
LooksAt None block before r = r ≡ None
LooksAt (Some n) block before r = (after : Looking) × (r ≡ Some after) × LooksOn (take n block) (length block) before after
