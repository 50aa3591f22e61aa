-- What a whole pattern matches.
use Rattle.std.specs.List.{list_any}
use Rattle.std.specs.Prelude.{ℕ, Bool, cond, List, [], leb, length}
use Rattle.text.specs.Limits.{field_limit}
use Rattle.glob.specs.Match.{matches}
use Rattle.pattern.specs.declared.Syntax.{Syntax}
use Rattle.pattern.specs.Whole.{expansions_of}

-- one of the expansions matches the whole name (01, patterns)
unfoldable pub matches_some : List (List ℕ) → List ℕ → Bool
unfolding matches
matches_some es s = list_any (λ e. matches e s) es

-- the brace-free expansions of a pattern that a field can hold, none of a longer one
unfoldable pub field_expansions : Syntax → List ℕ → List (List ℕ)
field_expansions syntax p = cond (leb (length p) field_limit) (expansions_of syntax p) []

-- one of those matches the whole name
unfoldable pub matches_pattern : Syntax → List ℕ → List ℕ → Bool
matches_pattern syntax p s = matches_some (field_expansions syntax p) s
