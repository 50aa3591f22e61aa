-- Clock times: "hh has one or two digits, mm two (to 59). 24:00 is past the day's last minute; later is 14" (01).
use Rattle.std.specs.Option.{option_and_then}
use Rattle.std.specs.Prelude.{ℕ, ◌+◌, ◌*◌, cond, List, eqb, leb, length, None, Option, Some}
use Rattle.text.specs.Bytes.{byte}
use Rattle.text.specs.Number.{decimal_of}
use Rattle.text.specs.Parts.{Parts, part_at}

-- the minutes of a day
abbrev pub day_minutes : ℕ
day_minutes = 1440

-- the last minute of an hour
abbrev pub last_minute : ℕ
last_minute = 59

-- the number, where it is not above `most`
abbrev pub not_past : ℕ → ℕ → Option ℕ
not_past most v = cond (leb v most) (Some v) None

-- "hh has one or two digits"
unfoldable pub hour_of : List ℕ → Option ℕ
unfolding decimal_of
hour_of s = cond (leb (length s) 2) (decimal_of s) None

-- "mm two (to 59)"
unfoldable pub minute_of : List ℕ → Option ℕ
unfolding decimal_of
minute_of s = cond (eqb (length s) 2) (option_and_then (not_past last_minute) (decimal_of s)) None

-- the minute of the day, where it is not after 24:00
abbrev pub minute_at : Option ℕ → Option ℕ → Option ℕ
minute_at hour minute = option_and_then (λ h. option_and_then (λ m. not_past day_minutes (h * 60 + m)) minute) hour

-- the hour before the colon and the minute behind it; without a colon the hour alone
abbrev pub clock_parts : List ℕ → Option Parts → Option ℕ
clock_parts s None = minute_at (hour_of s) (Some 0)
clock_parts s (Some p) = minute_at (hour_of p.front) (minute_of p.back)

-- `hh[:mm]`
unfoldable pub clock_of : List ℕ → Option ℕ
unfolding part_at hour_of minute_of
clock_of s = clock_parts s (part_at (byte ":") s)
