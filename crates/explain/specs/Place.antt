-- The physical line in which a place of a table stands: its number, its bytes, and where in it the place is.
use Rattle.std.specs.Prelude.{ℕ, zero, suc, ◌+◌, ◌-◌, ◌<◌, ◌≡◌, cond, List, length, take, drop, get_or, count_by}
use Rattle.text.specs.Bytes.{byte, is}
use Rattle.text.specs.Contract.{lead}

-- the number from 1: one more than there are newlines before the place
unfoldable pub line_number : List ℕ → ℕ → ℕ
line_number table place = suc (count_by (is "\n") (take place table))

-- where the line begins: behind the nearest newline before the place, or at the table's beginning
unfoldable pub line_start : List ℕ → ℕ → ℕ
line_start table zero = 0
line_start table (suc place) = cond (is "\n" (get_or table place 0)) (suc place) (line_start table place)

-- where it ends: at the next newline from the place on, or at the table's end
unfoldable pub line_end : List ℕ → ℕ → ℕ
unfolding lead
line_end table place = place + lead (byte "\n") (drop place table)

-- the number from 1 of the place's byte in its line
unfoldable pub column : List ℕ → ℕ → ℕ
unfolding line_start
column table place = suc (place - line_start table place)

-- the bytes of the line, without its newline
unfoldable pub physical_line : List ℕ → ℕ → List ℕ
unfolding line_start line_end
physical_line table place = take (line_end table place - line_start table place) (drop (line_start table place) table)

-- those of them that stand before the place
unfoldable pub line_front : List ℕ → ℕ → List ℕ
unfolding line_start
line_front table place = take (place - line_start table place) (drop (line_start table place) table)

-- no newline stands in bytes, or the last of them stands at a place
abbrev pub NoNewline : List ℕ → Type 0
NoNewline s = (k : ℕ) → k < length s → get_or s k 0 ≡ 10 → ⊥

pub record LastNewline (s : List ℕ) (i : ℕ) : Type 0 where
  pub inside : i < length s
  pub newline : get_or s i 0 ≡ 10
  pub none : (k : ℕ) → i < k → k < length s → get_or s k 0 ≡ 10 → ⊥
