-- Argument patterns: which arguments they cover, and whether all of these match (01: "an argument must match each that covers it").
use Rattle.std.specs.List.{list_all}
use Rattle.std.specs.Prelude.{Bool, true, not, ◌&&◌, ◌||◌, List, [], ◌∷◌, ◌++◌, ℕ, ◌+◌}
use Rattle.text.specs.Class.{Range, in_range}
use Rattle.matching.specs.Whole.{matches_some}

-- the positions that a pattern covers, from 1 on, and its brace-free expansions
pub record ArgumentPattern : Type 0 where
  pub positions : Range
  pub expansions : List (List ℕ)

-- the argument at a position passes a pattern that does not cover it, or that it matches
unfoldable pub passes : ℕ → List ℕ → ArgumentPattern → Bool
passes i a p = not (in_range p.positions i) || matches_some p.expansions a

-- the arguments from position i on pass all patterns in force
unfoldable pub arguments_from : ℕ → List ArgumentPattern → List (List ℕ) → Bool
arguments_from i ps [] = true
arguments_from i ps (a ∷ rest) = list_all (passes i a) ps && arguments_from (i + 1) ps rest

-- the arguments, the first at position 1, pass all patterns in force
unfoldable pub arguments_pass : List ArgumentPattern → List (List ℕ) → Bool
arguments_pass ps xs = arguments_from 1 ps xs

-- "Argument patterns in force globally and the entry's own add up"
unfoldable pub in_force : (global own : List ArgumentPattern) → List ArgumentPattern
in_force global own = global ++ own
