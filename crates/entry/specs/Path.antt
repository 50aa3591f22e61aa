-- The path of an entry for a command (01, "Entries").
use Rattle.std.specs.Prelude.{ℕ, cond, List, [], ◌∷◌, ◌++◌, None, Option, Some}
use Rattle.text.specs.Bytes.{is}
use Rattle.matching.specs.Whole.{matches_some}
use Rattle.entry.specs.Field.{Pair}

-- "5: path longer than 1,024 bytes"
abbrev pub path_limit : ℕ
path_limit = 1024

-- "each `*` in it becomes the command, once"
unfoldable pub starred : List ℕ → List ℕ → List ℕ
starred command [] = []
starred command (b ∷ p) = cond (is "*" b) command (b ∷ []) ++ starred command p

-- "The leftmost pair whose pattern matches the whole command gives the path"
unfoldable pub path_for : List ℕ → List Pair → Option (List ℕ)
path_for command [] = None
path_for command (p ∷ ps) = cond (matches_some p.expansions command) (Some (starred command p.path)) (path_for command ps)
