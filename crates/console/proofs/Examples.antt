-- The definitions computed: what question lines ask, what is printed for each kind of answer, and 01's worked lines. Assumes nothing.
use Rattle.std.specs.Prelude.{None, Option, Some}
use Rattle.question.specs.declared.Age.{Age}
use mathlib.Core.Path.{◌≡◌, refl}
use mathlib.Core.Bool.{false}
use mathlib.Core.List.{List, [], ◌∷◌, ◌++◌, map}
use Prim.Native.Nat.{ℕ}
use lib.IntN.{ℤ, pos, negsuc}
use lib.ListN.{replicate}
use Rattle.text.specs.Bytes.{bytes}
use Rattle.answer.specs.Answer.{Grant, Told, told, granted, at_line, at_place}
use Rattle.answer.specs.Meaning.{Asked}
use Rattle.console.specs.QuestionLine.{number_in, minute_in, age_in, groups_in, arguments_in, asked_from, good_line, asked_in}
use Rattle.output.specs.Decimal.{written, decimal}
use Rattle.console.specs.Printed.{id_text, grant_text, stop_text, refusal_text, printed}

-- ---- what a question line asks
asked : List ℕ → List ℕ → List ℕ → List ℕ → ℕ → (Option Age) → List ℕ → Option Asked
asked command user groups host minute age args = Some (record { command = command; user = user; groups = groups; host = host; minute = record { 0 = minute }; age = age; args = args })

ago : ℤ → (Option Age)
ago minutes = Some (record { 0 = minutes })

-- good lines: 01's, a group list in which `-` is a name, empty arguments, numbers with leading zeros, the ages at the limits
pub lines : List (List ℕ)
lines =
    bytes "setclock ann - van2 1049 15"
    ∷ bytes "setclock tom - van2 1049 -"
    ∷ bytes "cal/adc kim bench shop 0 - a b c"
    ∷ bytes "c u a,-,b h 00010079 -0"
    ∷ bytes "c u - h 5 000 "
    ∷ bytes "c u - h 5 -   x "
    ∷ bytes "c u ,a h 5 2147483647"
    ∷ bytes "c u - h 5 -2147483648"
    ∷ bytes "c  - h 5 -"
    ∷ []

pub asks : List (Option Asked)
unfolding asked ago
asks =
    asked (bytes "setclock") (bytes "ann") [] (bytes "van2") 1049 (ago (pos 15)) []
    ∷ asked (bytes "setclock") (bytes "tom") [] (bytes "van2") 1049 None []
    ∷ asked (bytes "cal/adc") (bytes "kim") (bytes "bench" ++ 0 ∷ []) (bytes "shop") 0 None (bytes "a" ++ 0 ∷ bytes "b" ++ 0 ∷ bytes "c" ++ 0 ∷ [])
    ∷ asked (bytes "c") (bytes "u") (bytes "a" ++ 0 ∷ bytes "-" ++ 0 ∷ bytes "b" ++ 0 ∷ []) (bytes "h") 10079 (ago (pos 0)) []
    ∷ asked (bytes "c") (bytes "u") [] (bytes "h") 5 (ago (pos 0)) (0 ∷ [])
    ∷ asked (bytes "c") (bytes "u") [] (bytes "h") 5 None (0 ∷ 0 ∷ bytes "x" ++ 0 ∷ 0 ∷ [])
    ∷ asked (bytes "c") (bytes "u") (0 ∷ bytes "a" ++ 0 ∷ []) (bytes "h") 5 (ago (pos 2147483647)) []
    ∷ asked (bytes "c") (bytes "u") [] (bytes "h") 5 (ago (negsuc 2147483647)) []
    ∷ asked (bytes "c") [] [] (bytes "h") 5 None []
    ∷ []

pub lines_ask : map asked_in lines ≡ asks
unfolding lines asks asked ago mathlib.Core.List.flat_map Rattle.text.specs.Class.digit Rattle.text.specs.Lists.has Rattle.text.specs.Lists.split_at Rattle.text.specs.Number.digits number_in minute_in age_in groups_in arguments_in asked_from good_line asked_in
lines_ask = refl

-- lines that are not of the form
pub malformed : List (List ℕ)
malformed =
    []
    ∷ bytes "setclock"
    ∷ bytes "setclock ann - van2 1049"
    ∷ bytes "c u - h  5"
    ∷ bytes "c u - h 5 "
    ∷ bytes "c u - h 10080 5"
    ∷ bytes "c u - h 65536 5"
    ∷ bytes "c u - h -5 5"
    ∷ bytes "c u - h 5a 5"
    ∷ bytes "c u - h - 5"
    ∷ bytes "c u - h 5 +5"
    ∷ bytes "c u - h 5 --5"
    ∷ bytes "c u - h 5 2147483648"
    ∷ bytes "c u - h 5 -2147483649"
    ∷ (bytes "c u - h 5 5 a" ++ 0 ∷ [])
    ∷ []

pub malformed_ask_nothing : map asked_in malformed ≡ replicate 15 None
unfolding malformed mathlib.Core.List.flat_map Rattle.text.specs.Class.digit Rattle.text.specs.Lists.has Rattle.text.specs.Lists.split_at Rattle.text.specs.Number.digits number_in minute_in age_in groups_in arguments_in asked_from good_line asked_in
malformed_ask_nothing = refl

-- ---- what is printed
grant : List ℕ → List ℕ → List ℕ → List ℕ → Grant
grant uid euid gid egid = record { line = 1203; path = bytes "/bin/x"; uid = uid; euid = euid; gid = gid; egid = egid; auth = false; timeout = None; nargs = None; written = 11 }

pub answers : List Told
unfolding grant
answers =
    told 0 (granted (grant [] [] [] []))
    ∷ told 1 (granted (grant [] [] [] []))
    ∷ told 0 (granted (grant (bytes "a") (bytes "b") (bytes "c") (bytes "d")))
    ∷ told 1 (granted (grant [] (bytes "<owner>") [] (bytes "ee")))
    ∷ told 2 (at_line 0)
    ∷ told 3 (at_line 5)
    ∷ told 4 (at_line 10)
    ∷ told 5 (at_line 32769)
    ∷ told 10 (at_place 0)
    ∷ told 11 (at_place 32768)
    ∷ told 17 (at_place 0)
    ∷ told 18 (at_place 9)
    ∷ told 14 (at_place 18446744073709551615)
    ∷ []

pub printed_answers : map printed answers ≡
    bytes "permit 1203 /bin/x\n"
    ∷ bytes "password 1203 /bin/x\n"
    ∷ bytes "permit 1203 /bin/x uid=a euid=b gid=c egid=d\n"
    ∷ bytes "password 1203 /bin/x euid=<owner> egid=ee\n"
    ∷ bytes "none\n"
    ∷ bytes "stopped 5 nargs\n"
    ∷ bytes "stopped 10 arg\n"
    ∷ bytes "stopped 32769 path\n"
    ∷ bytes "refused 10 0\n"
    ∷ bytes "refused 11 32768\n"
    ∷ bytes "refused 17 0\n"
    ∷ bytes "refused 18 9\n"
    ∷ bytes "refused 14 18446744073709551615\n"
    ∷ []
unfolding answers grant written decimal id_text grant_text stop_text refusal_text printed
printed_answers = refl
