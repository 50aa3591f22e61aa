-- Time items, one brace-free expansion of what follows `time~` (01, "Entries"), and the minutes of the week that they match.
use Rattle.std.specs.Option.{option_and_then, option_map, option_or}
use Rattle.std.specs.Prelude.{ℕ, ◌+◌, ◌/◌, ◌%◌, Bool, true, false, cond, ◌&&◌, List, [], ◌∷◌, eqb, leb, ltb, drop, None, Option, Some}
use Rattle.text.specs.Bytes.{byte, is}
use Rattle.text.specs.Slice.{head_is}
use Rattle.text.specs.Parts.{Parts, part_at}
pub use Rattle.times.specs.declared.item.TimeItem.{TimeItem}
use Rattle.times.specs.declared.day.Day.{Day}
use Rattle.times.specs.declared.day.Day.TheVariants.{Every, Only}
use Rattle.times.specs.declared.period.Period.{Period}
use Rattle.times.specs.Day.{day_of}
use Rattle.times.specs.Clock.{day_minutes, clock_of}

-- the minutes of a day from the first on, up to the end, which is not one of them
abbrev pub period : ℕ → ℕ → Period
period first end = record { first = first; end = end }

-- the minutes before a clock time; `counts`: its own minute too
abbrev pub minutes_before : Bool → ℕ → Period
minutes_before counts m = period 0 (cond counts (m + 1) m)

-- the minutes after it
abbrev pub minutes_after : Bool → ℕ → Period
minutes_after counts m = period (cond counts m (m + 1)) day_minutes

-- `<` or `>` was read: with `=` the minute itself counts
unfoldable pub compared : (Bool → ℕ → Period) → List ℕ → Option Period
unfolding head_is clock_of
compared side s = cond (head_is (byte "=") s) (option_map (side true) (clock_of (drop 1 s))) (option_map (side false) (clock_of s))

-- "Both ends count, and the start is not after the end"
abbrev pub from_to : Option ℕ → Option ℕ → Option Period
from_to start last = option_and_then (λ a. option_and_then (λ b. cond (leb a b) (Some (period a (b + 1))) None) last) start

-- `hh[:mm]-hh[:mm]`
unfoldable pub clock_range : List ℕ → Option Period
unfolding part_at clock_of
clock_range s = option_and_then (λ p. from_to (clock_of p.front) (clock_of p.back)) (part_at (byte "-") s)

-- `<`, `>`, `<=`, `>=` with a clock time, or a range
unfoldable pub period_of : List ℕ → Option Period
unfolding compared clock_range
period_of [] = None
period_of (b ∷ s) = cond (is "<" b) (compared minutes_before s) (cond (is ">" b) (compared minutes_after s) (clock_range (b ∷ s)))

-- a period on a day
abbrev pub item_from : Option Period → Option Day → Option TimeItem
item_from p d = option_and_then (λ p. option_map (λ d. record { period = p; day = d }) d) p

-- without a slash a day alone, or a period on every day; else a period and its day
abbrev pub item_parts : List ℕ → Option Parts → Option TimeItem
item_parts s None = option_or (item_from (Some (period 0 day_minutes)) (day_of s)) (item_from (period_of s) (Some Every))
item_parts s (Some p) = item_from (period_of p.front) (day_of p.back)

-- "`hh[:mm]-hh[:mm][/day]`, `<`, `>`, `<=`, `>=` with `hh[:mm][/day]`, or a day alone"; none is a bad item (14)
unfoldable pub item_of : List ℕ → Option TimeItem
unfolding part_at period_of day_of
item_of s = item_parts s (part_at (byte "/") s)

-- the day is one of the item's
unfoldable pub on_day : Day → ℕ → Bool
on_day Every d = true
on_day (Only k) d = eqb d k

-- the minute of the day is one of the period's
unfoldable pub in_period : Period → ℕ → Bool
in_period p m = leb p.first m && ltb m p.end

-- the minute of the week is one of the item's; Monday 0:00 is 0
unfoldable pub item_matches : TimeItem → ℕ → Bool
unfolding on_day in_period
item_matches item minute = on_day item.day (minute / day_minutes) && in_period item.period (minute % day_minutes)
