-- What the contracts of a log's file say.
use Rattle.std.specs.Prelude.{◌≡◌, Bool, true, false, cond, List, ℕ, eqb, min, Option, Some, None, is_some, length, take}
use Rattle.streams.specs.Contract.{counted_on}
use Rattle.record_log.specs.declared.appended.Appended.{Appended}
use Rattle.record_log.specs.declared.file.Log.{Log}

-- what a write told, as a number of at most so many bytes; one that told none failed
abbrev pub clamp_len : Option ℕ → ℕ → ℕ
clamp_len (Some n) most = min n most
clamp_len None most = 0

-- a write of so many bytes that told this took all of them
unfoldable pub took_all : Option ℕ → (count : ℕ) → Bool
took_all told count = eqb (clamp_len told count) count

-- a part was handed on, and its write told this: the bytes are counted, and all is whole where it was and the write took all
pub record AfterWrite (told : Option ℕ) (part : List ℕ) (before after : Appended) : Type 0 where
  pub bytes : after.bytes ≡ counted_on before.bytes (length part)
  pub whole : after.whole ≡ cond before.whole (took_all told (length part)) false

-- a part was handed on, and its write told something
pub record HandsOn (part : List ℕ) (before after : Appended) : Type 0 where
  pub told : Option ℕ
  pub after_write : AfterWrite told part before after

-- the first records were handed on; where there are none, nothing was
pub record AppendsFirst (waiting : ℕ) (records : List ℕ) (before after : Appended) : Type 0 where
  pub bytes : after.bytes ≡ counted_on before.bytes (length (take waiting records))
  pub nothing : length (take waiting records) ≡ 0 → after ≡ before
  pub whole : after.whole ≡ true → before.whole ≡ true

-- records are appended to the log
abbrev pub is_open : Log → Bool
is_open l = is_some l.file

-- a log, open or not, to which nothing was handed and for which nothing waits
pub record Begins (is : Bool) (r : Log) : Type 0 where
  pub opened : is_open r ≡ is
  pub waits : r.waiting ≡ 0
  pub bytes : r.appended.bytes ≡ 0
  pub whole : r.appended.whole ≡ true

-- the same log with so many bytes that wait
pub record Waits (waiting : ℕ) (before after : Log) : Type 0 where
  pub opened : is_open after ≡ is_open before
  pub waits : after.waiting ≡ waiting
  pub appended : after.appended ≡ before.appended

-- the records that wait were handed on: none waits, and the log is open where it was and each write took all
pub record Appends (records : List ℕ) (before after : Log) : Type 0 where
  pub waits : after.waiting ≡ 0
  pub appended : AppendsFirst before.waiting records before.appended after.appended
  pub opened : is_open after ≡ cond (is_open before) after.appended.whole false
