-- What is printed of a log: a line for each eight bytes, and one for what is left at its end.
use Rattle.std.specs.Prelude.{List, [], ◌∷◌, ◌++◌, ℕ, zero, suc, ◌-◌, ◌/◌, ◌%◌, length, take, drop}
use Rattle.record.specs.Layout.{record_length}
use Rattle.record.specs.Read.{record_in}
use Rattle.log_text.specs.Printed.{record_text}

-- the lines of so many records
unfoldable pub lines_in : ℕ → List ℕ → List ℕ
unfolding record_text
lines_in zero s = []
lines_in (suc k) s = record_text (record_in (take record_length s)) ++ lines_in k (drop record_length s)

-- the lines of all whole records
unfoldable pub record_lines : List ℕ → List ℕ
unfolding lines_in
record_lines s = lines_in (length s / record_length) s

-- the bytes behind the last whole record
unfoldable pub bytes_left : List ℕ → List ℕ
bytes_left s = drop (length s - length s % record_length) s

-- the line of these, which are no whole record, if there are any
unfoldable pub last_text : List ℕ → List ℕ
unfolding record_text
last_text [] = []
last_text (b ∷ s) = record_text (record_in (b ∷ s))

-- all lines
unfoldable pub log_text : List ℕ → List ℕ
unfolding record_lines last_text bytes_left
log_text s = record_lines s ++ last_text (bytes_left s)
