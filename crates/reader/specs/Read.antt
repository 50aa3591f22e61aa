-- One control line from the old state to the new, or its first fault.
use Rattle.std.specs.Prelude.{ℕ, zero, suc, List, None, Ok, Option, Result, Some}
use Rattle.fault.specs.Fault.{and_then, with_first, require}
use Rattle.fault.specs.declared.Cause.{Cause}
use Rattle.fault.specs.declared.Cause.TheVariants.{EntryTooEarly}
use Rattle.line.specs.declared.kind.LineKind.{LineKind}
use Rattle.line.specs.declared.kind.LineKind.TheVariants.{NoField, Colon as ColonKind, Entry as EntryKind}
use Rattle.line.specs.Line.{Line}
use Rattle.line.specs.Fold.{Located, at_beginning}
use Rattle.line.specs.Scan.{scanned}
use Rattle.line.specs.Kind.{kind_of_line}
use Rattle.question.specs.Question.{Question}
use Rattle.variables.specs.Substitute.{field_as}
use Rattle.condition.specs.Condition.{Judge, judge_of}
use Rattle.entry.specs.Entry.{entry_of}
use Rattle.reader.specs.State.{State, scope_of, with_entry}
use Rattle.reader.specs.Colon.{word_of, by_word}

-- the judge of a question's caller
abbrev pub judge_for : Question → Judge
judge_for q = judge_of q.user q.groups q.host q.minute

-- an entry met before `patterns=shell` is a fault ahead of any in its fields
unfoldable pub entry_line : Question → ℕ → State → List (List ℕ) → Result State Cause
entry_line q line s fs = require s.shell EntryTooEarly (and_then (entry_of (judge_for q) (scope_of q s) fs) (λ e. Ok (with_entry q line e s)))

-- the first field is the colon word
abbrev pub colon_line : Question → Option (List (List ℕ) → Result State Cause) → State → List (List ℕ) → Result State Cause
colon_line q deeper s fs = with_first (field_as (scope_of q s) word_of) fs (λ w rest. by_word (scope_of q s) deeper s rest w)

-- by the kind of line that the fields make
abbrev pub by_kind : Question → ℕ → Option (List (List ℕ) → Result State Cause) → State → List (List ℕ) → LineKind → Result State Cause
by_kind q line deeper s fs NoField = Ok s
by_kind q line deeper s fs ColonKind = colon_line q deeper s fs
by_kind q line deeper s fs EntryKind = entry_line q line s fs

-- the fields of a control line, with the depth left for `:if`
unfoldable pub fields_read : ℕ → Question → ℕ → State → List (List ℕ) → Result State Cause
fields_read zero q line s fs = by_kind q line None s fs (kind_of_line fs)
fields_read (suc d) q line s fs = by_kind q line (Some (λ rest. fields_read d q line s rest)) s fs (kind_of_line fs)

-- 01: another `:if` "to a depth of 4"
abbrev pub if_depth : ℕ
if_depth = 4

-- a control line: "joined length, indents, quotes, number of fields, then fields left to right", then the whole line
unfoldable pub line_read : Question → State → Line → Result State (Located Cause)
line_read q s l = at_beginning (and_then (scanned l.bytes) (fields_read if_depth q l.number s))
