-- Days: "a day is a name or `*`"; "The seven English day names may be shortened to three letters or more, in either case" (01).
use Rattle.std.specs.Str.{bytes_eq}
use Rattle.std.specs.Prelude.{ℕ, ◌+◌, Bool, true, false, cond, ◌&&◌, List, [], ◌∷◌, eqb, leb, length, None, Option, Some}
use Rattle.text.specs.Bytes.{bytes}
use Rattle.text.specs.Case.{lower_of}
use Rattle.times.specs.declared.day.Day.{Day}
use Rattle.times.specs.declared.day.Day.TheVariants.{Every, Only}

-- the fewest letters of a day's name
abbrev pub fewest_letters : ℕ
fewest_letters = 3

-- the names, Monday first
unfoldable pub day_names : List (List ℕ)
day_names =
    bytes "monday"
    ∷ bytes "tuesday"
    ∷ bytes "wednesday"
    ∷ bytes "thursday"
    ∷ bytes "friday"
    ∷ bytes "saturday"
    ∷ bytes "sunday"
    ∷ []

-- the first, with letter case ignored, is a beginning of the second
unfoldable pub shortens : List ℕ → List ℕ → Bool
unfolding lower_of
shortens [] name = true
shortens (b ∷ s) [] = false
shortens (b ∷ s) (x ∷ name) = eqb (lower_of b) x && shortens s name

-- the first of the names, the first having number d, that the text shortens
unfoldable pub day_among : ℕ → List (List ℕ) → List ℕ → Option Day
unfolding shortens
day_among d [] s = None
day_among d (name ∷ names) s = cond (shortens s name) (Some (Only d)) (day_among (d + 1) names s)

-- `*` is every day; a name has three letters or more
unfoldable pub day_of : List ℕ → Option Day
unfolding day_among day_names
day_of s = cond (bytes_eq s (bytes "*")) (Some Every) (cond (leb fewest_letters (length s)) (day_among 0 day_names s) None)
