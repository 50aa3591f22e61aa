-- One field of an entry, from its text and by where it stands (01, "Entries" and "Options").
use Rattle.std.specs.List.{list_any}
use Rattle.std.specs.Prelude.{ℕ, ◌+◌, Bool, true, false, not, cond, ◌&&◌, List, [], ◌∷◌, ◌++◌, drop, take, Err, None, Ok, Option, Result, Some}
use Rattle.text.specs.Bytes.{byte}
use Rattle.text.specs.Class.{blank}
use Rattle.text.specs.Slice.{head_is, find_pair}
use Rattle.fault.specs.Fault.{and_then, require}
use Rattle.fault.specs.declared.Cause.{Cause}
use Rattle.fault.specs.declared.Cause.TheVariants.{LatePair, Path}
use Rattle.pattern.specs.declared.Syntax.TheVariants.{Plain}
use Rattle.pattern.specs.Tree.{expanded}
use Rattle.options.specs.Read.{Setting, option_of}
use Rattle.condition.specs.Rightmost.{Judged}
use Rattle.condition.specs.Condition.{Sort, user, group, time, condition_of, Judge}

-- a command pattern's brace-free expansions, with its path
pub record Pair : Type 0 where
  pub expansions : List (List ℕ)
  pub path : List ℕ

-- what an entry's fields hold, each sort in written order
pub record Entry : Type 0 where
  pub pairs : List Pair
  pub users : List Judged
  pub times : List Judged
  pub settings : List Setting

-- an entry by its four sorts of fields
abbrev pub entry : List Pair → List Judged → List Judged → List Setting → Entry
entry ps us ts ss = record { pairs = ps; users = us; times = ts; settings = ss }

-- before the first field
unfoldable pub no_field : Entry
no_field = entry [] [] [] []

-- the fields of the second behind those of the first
unfoldable pub followed : Entry → Entry → Entry
followed a b = entry (a.pairs ++ b.pairs) (a.users ++ b.users) (a.times ++ b.times) (a.settings ++ b.settings)

-- where a field stands: the first; behind CmdPat, with its expansions; behind pairs only; behind the path or a field that is no pair
pub data Position : Type 0 where
  first : Position
  second : List (List ℕ) → Position
  pairs rest : Position

-- what one field holds, and where the next one stands
pub record FieldRead : Type 0 where
  pub part : Entry
  pub next : Position

-- what a field holds and where the next one stands, by these two
abbrev pub field_read : Entry → Position → FieldRead
field_read e p = record { part = e; next = p }

-- an entry of one pair
abbrev pub a_pair : List (List ℕ) → List ℕ → Entry
a_pair es p = entry (record { expansions = es; path = p } ∷ []) [] [] []

-- a condition is one of users and groups, or one of times
abbrev pub condition_part : Sort → List Judged → Entry
condition_part user xs = entry [] xs [] []
condition_part group xs = entry [] xs [] []
condition_part time xs = entry [] [] xs []

-- "FullPath begins with `/` and has no blank"
unfoldable pub full_path : List ℕ → Result (List ℕ) Cause
full_path p = require (head_is (byte "/") p && not (list_any blank p)) Path (Ok p)

-- whether a search found a place
abbrev pub found : Option ℕ → Bool
found (Some i) = true
found None = false

-- `::` stands in the text
unfoldable pub has_pair : List ℕ → Bool
has_pair t = found (find_pair (byte ":") (byte ":") 0 t)

-- "`CmdPat::FullPath` fields, parted at the first `::`"
abbrev pub pair_at : List ℕ → Option ℕ → Result FieldRead Cause
pair_at t None = Err LatePair
pair_at t (Some i) =
    and_then (expanded Plain (take i t)) (λ es.
    and_then (full_path (drop (i + 2) t)) (λ p.
    Ok (field_read (a_pair es p) pairs)))

-- a field that is a pair
unfoldable pub pair_of : List ℕ → Result FieldRead Cause
pair_of t = pair_at t (find_pair (byte ":") (byte ":") 0 t)

-- CmdPat
unfoldable pub command_of : List ℕ → Result FieldRead Cause
command_of t = and_then (expanded Plain t) (λ es. Ok (field_read no_field (second es)))

-- FullPath behind CmdPat; "A later field with `::` is 14"
unfoldable pub path_field : List (List ℕ) → List ℕ → Result FieldRead Cause
path_field es t = require (not (has_pair t)) LatePair (and_then (full_path t) (λ p. Ok (field_read (a_pair es p) rest)))

-- an option, in which `::` is the last fault that is looked for; or else a condition
abbrev pub option_or : Judge → List ℕ → Option (Result Setting Cause) → Result FieldRead Cause
option_or judge t (Some r) = and_then r (λ s. require (not (has_pair t)) LatePair (Ok (field_read (entry [] [] [] (s ∷ [])) rest)))
option_or judge t None = and_then (condition_of judge t) (λ c. Ok (field_read (condition_part c.sort c.alternatives) rest))

-- a field behind the path or the pairs: "options" or "conditions"
unfoldable pub other_of : Judge → List ℕ → Result FieldRead Cause
other_of judge t = option_or judge t (option_of false t)

-- "`CmdPat FullPath` and the other fields, or one or more leading `CmdPat::FullPath` fields": as long as all fields so far hold `::`, a field with `::` is a pair
unfoldable pub field_of : Judge → Position → List ℕ → Result FieldRead Cause
field_of judge first t = cond (has_pair t) (pair_of t) (command_of t)
field_of judge (second es) t = path_field es t
field_of judge pairs t = cond (has_pair t) (pair_of t) (other_of judge t)
field_of judge rest t = other_of judge t
