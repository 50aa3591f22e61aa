-- What only contracts and proofs cite: demand 3 with a call's own result in it, and the steps of the call.
use Rattle.question.specs.declared.Age.{Age}
use Rattle.std.specs.Prelude.{ℕ, ◌+◌, ◌≤◌, ◌≡◌, List, length, take, Option, Some}
use Rattle.text.specs.Buffer.{laid}
use Rattle.question.specs.Question.{Question}
use Rattle.question.specs.declared.WeekMinute.{WeekMinute}
use Rattle.options.specs.Options.{Options, id_or}
use Rattle.table_lines.specs.Contract.{AskedWith}
use Rattle.answer.specs.declared.Granted.{Granted}
use Rattle.answer.specs.declared.Answer.{Answer}
use Rattle.answer.specs.declared.grant.StringEnds.{StringEnds}
use Rattle.answer.specs.Answer.{Outcome, least_buffer, result}
use Rattle.answer.specs.Meaning.{Asked, ended, strings, granted_by, read_table, answer_of}
use Rattle.answer.specs.Cut.{CutAt}

-- what is asked with these parts
abbrev pub asking : (command user groups host : List ℕ) → WeekMinute → (Option Age) → List ℕ → Asked
asking command user groups host minute last args = record { command = command; user = user; groups = groups; host = host; minute = minute; age = last; args = args }

-- ---- demand 3, where o is what the call gave for a table t, a question and the buffer b
-- o as the outcome of the whole: every cut of t answers what demand 3 says beside o
abbrev pub WholeOf : List ℕ → Asked → List ℕ → Outcome → Type 0
WholeOf t a b o = (n : ℕ) → n ≤ length t → CutAt t b n o (answer_of (take n t) a b)

-- o as the outcome of a cut: for every table w of which t is the beginning, o is what demand 3 says beside the outcome of w
abbrev pub CutOf : List ℕ → Asked → List ℕ → Outcome → Type 0
CutOf t a b o = (w : List ℕ) (n : ℕ) → n ≤ length w → take n w ≡ t → CutAt w b n (answer_of w a b) o

-- all that the call promises of o
pub record Promised (t : List ℕ) (a : Asked) (b : List ℕ) (o : Outcome) : Type 0 where
  pub meaning : o ≡ answer_of t a b
  pub whole : WholeOf t a b o
  pub cut : CutOf t a b o

-- ---- the steps
-- a string was put from n on, with its zero byte, and r is the place behind it
pub record Puts (old new : List ℕ) (n : ℕ) (xs : List ℕ) (r : Option ℕ) : Type 0 where
  pub bytes : new ≡ laid old n (ended xs)
  pub end : r ≡ Some (n + length (ended xs))

-- where five strings end that are put one behind the other
abbrev pub string_ends : List ℕ → Options → StringEnds
string_ends path o =
    let p = length (ended path) in
    let u = p + length (ended (id_or o.uid)) in
    let e = u + length (ended (id_or o.euid)) in
    let g = e + length (ended (id_or o.gid)) in
    record { path = p; uid = u; euid = e; gid = g; egid = g + length (ended (id_or o.egid)) }

-- all five were put, one behind the other
pub record PutsAll (old new : List ℕ) (path : List ℕ) (o : Options) (r : Option StringEnds) : Type 0 where
  pub bytes : new ≡ laid old 0 (strings path o)
  pub ends : r ≡ Some (string_ends path o)

-- the five strings are at the beginning of the buffer, and this is told of them
pub record Grants (line : ℕ) (path : List ℕ) (o : Options) (old new : List ℕ) (r : Option Granted) : Type 0 where
  pub told : r ≡ Some (granted_by line path o)
  pub bytes : new ≡ laid old 0 (strings path o)

-- the answer of a table to whoever asks with these parts, and the buffer after it, where the buffer is long enough
pub record ReadsTable (t command user groups host : List ℕ) (minute : WeekMinute) (last : (Option Age)) (args old new : List ℕ) (r : Answer) : Type 0 where
  pub reads : least_buffer ≤ length old → (q : Question) → AskedWith q command user groups host minute last args → result r new ≡ read_table t old (Some q)
