-- The rightmost rule, for users, groups and times alike (01, "Entries").
use Rattle.std.specs.Option.{option_or}
use Rattle.std.specs.Prelude.{Bool, not, cond, List, [], ◌∷◌, None, Option, Some}

-- one alternative of a condition: whether a `!` stands in front of the condition, and whether the alternative applies
pub record Judged : Type 0 where
  pub negated : Bool
  pub applies : Bool

-- an alternative by its two tests
abbrev pub judged : Bool → Bool → Judged
judged n a = record { negated = n; applies = a }

-- what one alternative says: where it applies it accepts, unless it is negated
abbrev pub said_by : Judged → Option Bool
said_by x = cond x.applies (Some (not x.negated)) None

-- "The rightmost alternative that applies decides"; none where none applies
unfoldable pub rightmost : List Judged → Option Bool
rightmost [] = None
rightmost (x ∷ xs) = option_or (rightmost xs) (said_by x)
