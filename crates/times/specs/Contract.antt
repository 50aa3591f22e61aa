-- What the contracts of the functions say: the code's answers as the definitions'.
use Rattle.std.specs.Prelude.{ℕ, Bool, cond, List, None, Option, Some}
use Rattle.text.specs.Parts.{Parts}
use Rattle.times.specs.declared.period.Period.{Period}
use Rattle.times.specs.declared.item.TimeItem.{TimeItem}
use Rattle.times.specs.Item.{minutes_before, minutes_after, item_matches}

-- the side of a clock time that `<` or `>` stands for
abbrev pub side : Bool → Bool → ℕ → Period
side less = cond less minutes_before minutes_after

-- the two parts of a text
abbrev pub parts : List ℕ → List ℕ → Parts
parts front back = record { front = front; back = back }

-- what an expansion says of a minute of the week; none where it is no good item
unfoldable pub item_answer : Option TimeItem → ℕ → Option Bool
unfolding item_matches
item_answer None minute = None
item_answer (Some item) minute = Some (item_matches item minute)
