-- What only contracts and proofs cite: places in a table and what the answers about them stand for; how far the scan of a control line is, and the fields that a buffer and ends tell.
use Rattle.std.specs.Prelude.{ℕ, ◌+◌, ◌-◌, ◌≤◌, ◌<◌, zero, suc, min, ◌≡◌, false, Bool, true, not, cond, ◌&&◌, ◌||◌, List, [], ◌∷◌, ◌++◌, length, take, drop, get_or, set, leb, ltb, None, Ok, Option, Result, Some}
use Rattle.text.specs.Bytes.{byte, is}
use Rattle.text.specs.Buffer.{laid}
use Rattle.text.specs.Class.{blank}
use Rattle.text.specs.declared.quote.Quoting.{Quoting}
use Rattle.text.specs.declared.quote.Quoting.TheVariants.{Outside}
use Rattle.fault.specs.Fault.{and_then}
use Rattle.fault.specs.declared.Cause.{Cause}
use Rattle.line.specs.declared.ends.LineEnd.{LineEnd}
use Rattle.line.specs.declared.ends.Continuation.{Continuation}
use Rattle.line.specs.declared.ends.Continuation.TheVariants.{Backslash as AfterBackslash, Never}
use Rattle.line.specs.declared.counts.Counts.{Counts}
use Rattle.line.specs.declared.mode.ScanMode.{ScanMode}
use Rattle.line.specs.declared.mode.ScanMode.TheVariants.{Fields, Comment}
use Rattle.line.specs.declared.run.Run.{Run}
use Rattle.line.specs.declared.run.Run.TheVariants.{Blanks, Plain}
use Rattle.line.specs.declared.scanner.Scanner.{Scanner}
use Rattle.line.specs.Line.{Line, line, backslash, no_byte, newlines, placed, ended_lines}
use Rattle.line.specs.Joined.{Mode, in_fields, in_comment, JoinedByte, kept, between, joins, joined_from, joined_line, indented}
use Rattle.line.specs.Scan.{most_fields, fields_of, quoting_at_end, scanned}

-- r is the place of the first byte c from i on, or the end
pub record Reaches (c : ℕ) (t : List ℕ) (i r : ℕ) : Type 0 where
  pub low : i ≤ r
  pub high : r ≤ length t
  pub stops : r < length t → get_or t r 0 ≡ c
  pub absent : (j : ℕ) → i ≤ j → j < r → get_or t j 0 ≡ c → ⊥

-- the lines from a place on where one begins, the first of them with this number; from 0 and 1 on they are `lines_of`
abbrev pub lines_from : (ℕ → Bool) → List ℕ → ℕ → ℕ → List Line
lines_from continues t at number = placed at number (ended_lines continues false (drop at t))

-- the line that begins at a place ends at e and has `count` physical lines, one for each of its newlines, whatever its number
pub record LineEnds (continues : ℕ → Bool) (t : List ℕ) (at e count : ℕ) : Type 0 where
  pub low : at < e
  pub high : e ≤ length t
  pub positive : 0 < count
  pub few : at + count ≤ e
  pub counts : count ≡ newlines (take (e - at) (drop at t))
  pub reads : (number : ℕ) → lines_from continues t at number ≡ line at e number (take (e - 1 - at) (drop at t)) ∷ lines_from continues t e (number + count)

-- where the line that begins at a place ends, or that there is none that ends
abbrev pub Ends : (ℕ → Bool) → List ℕ → ℕ → Option LineEnd → Type 0
Ends continues t at (Some e) = LineEnds continues t at e.end e.lines
Ends continues t at None = (number : ℕ) → lines_from continues t at number ≡ []

-- the bytes that continue a line over a newline
abbrev pub continues_in : Continuation → ℕ → Bool
continues_in AfterBackslash b = backslash b
continues_in Never b = no_byte b

-- ---- the line
abbrev pub mode_of : ScanMode → Mode
mode_of (Fields q) = in_fields q
mode_of Comment = in_comment

-- a comment begins outside quotes
abbrev pub quoting_of : Mode → Quoting
quoting_of (in_fields q) = q
quoting_of in_comment = Outside

-- the bytes begin with a join
abbrev pub joins_at : List ℕ → Bool
joins_at [] = false
joins_at (b ∷ s) = joins b s

-- the bytes of a run
unfoldable pub in_run : Run → ℕ → Bool
in_run Blanks b = blank b
in_run Plain b = ltb 39 b && not (is "\\" b)

-- ---- what has been laid
pub record Progress : Type 0 where
  pub joined : ℕ
  pub kept : ℕ
  pub fields : ℕ
  pub start : ℕ
  pub text : List ℕ
  pub ends : List ℕ

abbrev pub progress : Counts → List ℕ → List ℕ → Progress
progress n text ends = record { joined = n.joined; kept = n.kept; fields = n.fields; start = n.start; text = text; ends = ends }

-- a field that has begun is complete
abbrev pub closed_if : Bool → Progress → Progress
closed_if true p = record { joined = p.joined; kept = p.kept; fields = p.fields + 1; start = p.kept; text = p.text; ends = cond (ltb p.fields most_fields) (set p.ends p.fields p.kept) p.ends }
closed_if false p = p

unfoldable pub closed_off : Progress → Progress
closed_off p = closed_if (ltb p.start p.kept) p

-- with as many bytes more that are in no field
abbrev pub longer : Progress → ℕ → Progress
longer p n = record { joined = p.joined + n; kept = p.kept; fields = p.fields; start = p.start; text = p.text; ends = p.ends }

-- with one byte more of the joined line
unfoldable pub absorbed : Progress → JoinedByte → Progress
absorbed p (kept b) = record { joined = p.joined + 1; kept = p.kept + 1; fields = p.fields; start = p.start; text = set p.text p.kept b; ends = p.ends }
absorbed p between = closed_off (longer p 1)

unfoldable pub absorbed_all : Progress → List JoinedByte → Progress
absorbed_all p [] = p
absorbed_all p (x ∷ j) = absorbed_all (absorbed p x) j

-- no count is above that of the joined line's bytes, and that is at most k
pub record Few (joined kept fields k : ℕ) : Type 0 where
  pub fewer : kept ≤ joined
  pub less : fields ≤ joined
  pub most : joined ≤ k

abbrev pub Small : Counts → Type 0
Small n = Few n.joined n.kept n.fields 9223372036854775807

-- ---- how far the scan is
-- before the first byte, which may be `#`
abbrev pub start_of : Bool → Scanner
start_of hash = record { at = 0; mode = Fields Outside; counts = record { joined = 0; kept = 0; fields = 0; start = 0 }; bare = false; hash = hash }

pub record Bounded (line : List ℕ) (s : Scanner) : Type 0 where
  pub within : s.at ≤ length line
  pub few : Few s.counts.joined s.counts.kept s.counts.fields s.at

-- the joined line from a place on, and from where a scanner is
abbrev pub joined_at : Bool → Mode → List ℕ → ℕ → List JoinedByte
joined_at hash m line i = joined_from hash 0 m (get_or (byte "\n" ∷ line) i 0) (drop i line)

abbrev pub joined_ahead : List ℕ → Scanner → List JoinedByte
joined_ahead line s = joined_at s.hash (mode_of s.mode) line s.at

-- a scanner went on to another: the rest of the line makes the same of what both have laid, of their quoting and of their indents
pub record Goes (line : List ℕ) (s : Scanner) (text ends : List ℕ) (r : Scanner) (text' ends' : List ℕ) : Type 0 where
  pub low : s.at ≤ r.at
  pub bounded : Bounded line r
  pub same : length text' ≡ length text
  pub hash : r.hash ≡ s.hash
  pub made : absorbed_all (progress r.counts text' ends') (joined_ahead line r) ≡ absorbed_all (progress s.counts text ends) (joined_ahead line s)
  pub quotes : quoting_at_end (quoting_of (mode_of r.mode)) (joined_ahead line r) ≡ quoting_at_end (quoting_of (mode_of s.mode)) (joined_ahead line s)
  pub bares : r.bare || not (indented (drop r.at line)) ≡ s.bare || not (indented (drop s.at line))

-- ---- the fields that a buffer and ends tell: they stand one behind the other, the first of them from `start` on
unfoldable pub fields_at : List ℕ → ℕ → List ℕ → ℕ → List (List ℕ)
fields_at text start ends zero = []
fields_at text start [] (suc n) = [] ∷ fields_at text start [] n
fields_at text start (e ∷ ends) (suc n) = take (e - start) (drop start text) ∷ fields_at text e ends n

-- as many as are counted, and there is room for
unfoldable pub fields_in : List ℕ → List ℕ → ℕ → List (List ℕ)
fields_in text ends count = fields_at text 0 ends (min count most_fields)

-- where the field with a number begins: at the end of the one before it; 0 where there is no room for so many
unfoldable pub field_start : List ℕ → ℕ → ℕ
field_start ends i = cond (leb i most_fields) (get_or (0 ∷ ends) i 0) 0

-- where fields end that are laid one behind the other from a place on
unfoldable pub ends_from : ℕ → List (List ℕ) → List ℕ
ends_from n [] = []
ends_from n (f ∷ fs) = (n + length f) ∷ ends_from (n + length f) fs

-- the bytes of fields, one field behind the other
unfoldable pub fields_text : List (List ℕ) → List ℕ
fields_text [] = []
fields_text (f ∷ fs) = f ++ fields_text fs

-- the line was scanned: the buffer begins with the bytes of its fields and the ends with theirs, so far as there is room, and what stood behind them stays
pub record Scans (line text text' ends ends' : List ℕ) (r : (Result ℕ Cause)) : Type 0 where
  pub bytes : text' ≡ laid text 0 (fields_text (fields_of (joined_line line)))
  pub places : ends' ≡ laid ends 0 (take most_fields (ends_from 0 (fields_of (joined_line line))))
  pub answer : r ≡ (and_then (scanned line) (λ fs. Ok (length fs)))
