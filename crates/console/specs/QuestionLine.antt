-- What a question line asks (01: "The program's question line is `COMMAND USER GROUPS HOST MINUTE AGE ARGS`, single spaces, `-` for no group (groups are comma-joined) or never").
use Rattle.std.specs.Option.{option_and_then}
use Rattle.question.specs.declared.Age.{Age}
use Rattle.std.specs.Str.{bytes_eq}
use Rattle.std.specs.Prelude.{Bool, not, cond, ◌&&◌, ℕ, ℤ, pos, neg_ℤ, leb, ltb, length, drop, None, Option, Some}
use mathlib.Core.List.{List, [], ◌∷◌, flat_map}
use Rattle.text.specs.Bytes.{byte, bytes}
use Rattle.text.specs.Lists.{null, has, split_at}
use Rattle.text.specs.Number.{digits}
use Rattle.text.specs.Slice.{starts_with}
use Rattle.question.specs.Question.{week_minutes}
use Rattle.question.specs.declared.WeekMinute.{WeekMinute}
use Rattle.answer.specs.Meaning.{Asked, ended}

-- "A question line has at most 32,768 bytes"
abbrev pub line_limit : ℕ
line_limit = 32768

-- the greatest signed 32-bit number, and how far the least lies below zero
abbrev pub most_age : ℕ
most_age = 2147483647

abbrev pub most_age_below : ℕ
most_age_below = 2147483648

-- "one or more digits", of any length, leading zeros too
unfoldable pub number_in : List ℕ → Option ℕ
unfolding digits
number_in s = cond (null s) None (digits 0 s)

-- a number as a minute of the week, "0 to 10,079"; a question with any other is not as 01 wants it
abbrev pub minute_from : Option ℕ → Option WeekMinute
minute_from None = None
minute_from (Some v) = cond (ltb v week_minutes) (Some (record { 0 = v })) None

-- "MINUTE is one or more digits"
unfoldable pub minute_in : List ℕ → Option WeekMinute
unfolding number_in
minute_in s = minute_from (number_in s)

-- a number with its sign as an age: "any signed 32-bit number of minutes, below zero where the clock went back"
abbrev pub age_from : (ℕ → ℤ) → ℕ → Option ℕ → Option (Option Age)
age_from sign most None = None
age_from sign most (Some v) = cond (leb v most) (Some (Some (record { 0 = sign v }))) None

-- "AGE is `-`, or an optional `-` and one or more digits (`-0` is 0); no `+`"
unfoldable pub age_in : List ℕ → Option (Option Age)
unfolding number_in
age_in s =
    cond (bytes_eq s (bytes "-")) (Some None)
    (cond (starts_with (bytes "-") s) (age_from (λ n. neg_ℤ (pos n)) most_age_below (number_in (drop 1 s)))
    (age_from pos most_age (number_in s)))

-- "GROUPS of just `-` is no group; in a list `-` is a name": the names between commas, each ended by a zero byte
unfoldable pub groups_in : List ℕ → List ℕ
unfolding split_at flat_map
groups_in s = cond (bytes_eq s (bytes "-")) [] (flat_map ended (split_at (byte ",") s))

-- the arguments, each ended by a zero byte
unfoldable pub arguments_in : List (List ℕ) → List ℕ
unfolding flat_map
arguments_in args = flat_map ended args

-- what the pieces between spaces ask; fewer than six are not of the form, and "behind AGE an empty piece is an empty argument, before it a fault (10)": an empty MINUTE or AGE here, any other in the question that is asked
unfoldable pub asked_from : List (List ℕ) → Option Asked
unfolding minute_in age_in groups_in arguments_in
asked_from [] = None
asked_from (command ∷ []) = None
asked_from (command ∷ user ∷ []) = None
asked_from (command ∷ user ∷ groups ∷ []) = None
asked_from (command ∷ user ∷ groups ∷ host ∷ []) = None
asked_from (command ∷ user ∷ groups ∷ host ∷ minute ∷ []) = None
asked_from (command ∷ user ∷ groups ∷ host ∷ minute ∷ age ∷ args) =
    option_and_then (λ m. option_and_then (λ a.
    Some (record { command = command; user = user; groups = groups_in groups; host = host; minute = m; age = a; args = arguments_in args })) (age_in age)) (minute_in minute)

-- the line is short enough, and "a zero byte in a question line is `refused 10 0`"
unfoldable pub good_line : List ℕ → Bool
unfolding has
good_line line = leb (length line) line_limit && not (has 0 line)

-- what a line, without its newline, asks; none is a line "not of this form". "Every space parts"
unfoldable pub asked_in : List ℕ → Option Asked
unfolding good_line asked_from split_at
asked_in line = cond (good_line line) (asked_from (split_at (byte " ") line)) None
