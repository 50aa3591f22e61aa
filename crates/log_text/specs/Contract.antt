-- What the contracts of the printer of a log say, and a series of its calls.
use Rattle.std.specs.Prelude.{◌≡◌, true, false, List, [], ◌++◌, ℕ, ◌+◌, ◌%◌, ◌≤◌, ◌<◌, length, take, drop, None, Option, Some}
use Rattle.record.specs.Layout.{record_length}
use Rattle.streams.specs.Contract.{LoadedIn, counted_on}
use Rattle.streams.specs.declared.standard_output.Output.{Output}
use Rattle.log_text.specs.LogText.{record_lines, bytes_left, last_text, log_text}
use Rattle.log_text.specs.declared.block.Shown.{Shown}
use Rattle.log_text.specs.declared.show.Run.{Run}

-- ---- lines that wait
-- a text stands behind what waited
pub record Added (text old : List ℕ) (waited : ℕ) (new : List ℕ) (r : ℕ) : Type 0 where
  pub within : r ≤ length new
  pub text_behind : take r new ≡ take waited old ++ text

-- so many bytes of a block, whole records, were shown: their lines stand behind those that waited
pub record Shows (block waited : List ℕ) (bytes : ℕ) (waiting : List ℕ) : Type 0 where
  pub part : bytes ≤ length block
  pub whole : bytes % record_length ≡ 0
  pub lines : waiting ≡ waited ++ record_lines (take bytes block)

-- a block of this length was shown up to a place: its last whole record, or one that has to wait for room
pub record Reached (block out start : ℕ) (r : Shown) : Type 0 where
  pub within : r.waiting ≤ out
  pub stops : r.bytes + record_length ≤ block → out < r.waiting + 32
  -- where there is room, a record at least is shown
  pub moves : record_length ≤ block → start + 32 ≤ out → 0 < r.bytes

-- ---- a series of calls
-- calls, each known by its contract: bytes are read behind those not shown yet, records are shown, and lines that wait are
-- handed on; with all bytes read, those not shown, all that was handed on, and the lines that wait
pub data Series : (input unshown printed waiting : List ℕ) → Type 0 where
  begun : Series [] [] [] []
  read : {input unshown printed waiting : List ℕ} (bytes : List ℕ) → Series input unshown printed waiting → Series (input ++ bytes) (unshown ++ bytes) printed waiting
  shown : {input unshown printed waited waiting : List ℕ} {bytes : ℕ} → Series input unshown printed waited → Shows unshown waited bytes waiting → Series input (drop bytes unshown) printed waiting
  written : {input unshown printed waiting : List ℕ} → Series input unshown printed waiting → Series input unshown (printed ++ waiting) []

-- ---- what is handed on
-- a text was handed on: if all of it was written, so many bytes were counted
pub record HandsOn (text : List ℕ) (before after : Output) : Type 0 where
  pub handed : after.whole ≡ true → after.handed ≡ counted_on before.handed (length text)
  pub whole : after.whole ≡ true → before.whole ≡ true

-- bytes were taken: the lines of their whole records were handed on, and what is left of them stands at the block's front
pub record Follows (bytes : List ℕ) (before : Output) (left : List ℕ) (r : Run) : Type 0 where
  pub left_over : left ≡ bytes_left bytes
  pub lines : HandsOn (record_lines bytes) before r.output
  pub going : r.going ≡ r.output.whole
  pub ended : r.ended ≡ false

-- the log ended: the line of what was left was handed on, and the run ends
pub record Finishes (left : List ℕ) (before : Output) (r : Run) : Type 0 where
  pub last : HandsOn (last_text left) before r.output
  pub going : r.going ≡ false
  pub ended : r.ended ≡ true

-- a read failed: nothing was handed on, and the run ends
pub record Fails (before : Output) (r : Run) : Type 0 where
  pub same : r.output ≡ before
  pub going : r.going ≡ false
  pub ended : r.ended ≡ false

-- what a read told was taken: its bytes, all of them, behind those of a record that had begun, or the end of the log
pub record Serves (loaded : Option ℕ) (begun : List ℕ) (rest : List ℕ) (before : Run) (left : List ℕ) (r : Run) : Type 0 where
  pub follows : (n : ℕ) → loaded ≡ Some n → 0 < n → Follows (begun ++ take n rest) before.output left r
  pub finishes : loaded ≡ Some 0 → Finishes begun before.output r
  pub fails : loaded ≡ None → Fails before.output r

-- a read told of the bytes behind the first ones, which stay
pub record LoadedBehind (begun : ℕ) (old new : List ℕ) (r : Option ℕ) : Type 0 where
  pub kept : take begun new ≡ take begun old
  pub loaded : LoadedIn (drop begun new) r

-- bytes were read so far: what they leave has begun, and their lines were handed on, from nothing on
pub record Reads (input begun : List ℕ) (r : Run) : Type 0 where
  pub left : r.going ≡ true → begun ≡ bytes_left input
  pub lines : r.going ≡ true → r.output.whole ≡ true → r.output.handed ≡ counted_on 0 (length (record_lines input))
  pub ended : r.ended ≡ true → r.output.whole ≡ true → r.output.handed ≡ counted_on 0 (length (log_text input))

-- a log of these bytes was printed, where it was read to its end and all was written
pub record PrintsLog (r : Run) : Type 0 where
  pub bytes : List ℕ
  pub all : r.ended ≡ true → r.output.whole ≡ true → r.output.handed ≡ counted_on 0 (length (log_text bytes))
