-- One option from a field's text: its name, its value, or its fault; and the options of a line (01, "Options").
use Rattle.std.specs.Option.{option_map}
use Rattle.std.specs.Str.{bytes_eq}
use Rattle.std.specs.List.{list_all, list_any}
use Rattle.text.specs.Number.{decimal_of}
use Rattle.std.specs.Prelude.{Bool, true, false, not, cond, ◌&&◌, ◌||◌, List, [], ◌∷◌, ◌++◌, ℕ, ℤ, pos, neg_ℤ, eqb, leb, ltb, length, drop, Err, None, Ok, Option, Result, Some}
use Rattle.text.specs.Bytes.{byte, bytes}
use Rattle.text.specs.Class.{Range, range, name_byte}
use Rattle.text.specs.Lists.{null}
use Rattle.text.specs.Slice.{starts_with}
use Rattle.text.specs.Parts.{Parts, part_at}
use Rattle.fault.specs.Fault.{and_then, needed, require}
use Rattle.fault.specs.declared.Cause.{Cause}
use Rattle.fault.specs.declared.Cause.TheVariants.{IdLength, OptionValue, PatternKind}
use Rattle.pattern.specs.declared.Syntax.TheVariants.{Plain}
use Rattle.pattern.specs.Tree.{expanded}
use Rattle.options.specs.declared.Id.{Id}
use Rattle.options.specs.declared.Id.TheVariants.{Uid, Euid, Gid, Egid}
use Rattle.options.specs.Options.{Options, ids_only, no_ids, no_options, over}
use Rattle.options.specs.Arguments.{ArgumentPattern}

-- the most bytes of a user or group name in an option
abbrev pub id_limit : ℕ
id_limit = 64

-- the last position of an argument that a pattern can cover
abbrev pub last_position : ℕ
last_position = 64

-- the most arguments that nargs can name
abbrev pub most_nargs : ℕ
most_nargs = 64

-- the most minutes of a timeout
abbrev pub most_minutes : ℕ
most_minutes = 32767

-- the most minutes of a timeout below zero
abbrev pub most_below : ℕ
most_below = 32768

-- what a field that is an option gives: which option it is, what it sets, and the argument patterns that it adds
pub record Setting : Type 0 where
  pub which : ℕ
  pub options : Options
  pub arguments : List ArgumentPattern

-- a setting of one of the eight options that may not stand twice, by its number
abbrev pub set_one : ℕ → Options → Setting
set_one k o = record { which = k; options = o; arguments = [] }

-- one of the four ids
abbrev pub set_id : Id → List ℕ → Setting
set_id Uid v = set_one 0 (ids_only (Some v) None None None)
set_id Euid v = set_one 1 (ids_only None (Some v) None None)
set_id Gid v = set_one 2 (ids_only None None (Some v) None)
set_id Egid v = set_one 3 (ids_only None None None (Some v))

-- auth
abbrev pub set_auth : Bool → Setting
set_auth b = set_one 4 (no_ids (Some b) None None)

-- timeout
abbrev pub set_timeout : ℤ → Setting
set_timeout t = set_one 5 (no_ids None (Some t) None)

-- nargs
abbrev pub set_nargs : Range → Setting
set_nargs r = set_one 6 (no_ids None None (Some r))

-- `patterns=shell`
abbrev pub set_shell : Setting
set_shell = set_one 7 no_options

-- an argument pattern, for the positions of a range: it may stand twice
abbrev pub set_argument : Range → List (List ℕ) → Setting
set_argument r e = record { which = 8; options = no_options; arguments = record { positions = r; expansions = e } ∷ [] }

-- from one number to another, not below least, not above most, the first not above the second
abbrev pub range_between : ℕ → ℕ → Option ℕ → Option ℕ → Option Range
range_between least most (Some m) (Some n) = cond (leb least m && (leb m n && leb n most)) (Some (range m n)) None
range_between least most (Some m) None = None
range_between least most None n = None

-- the two numbers of a range; one number stands for both
abbrev pub range_parts : ℕ → ℕ → List ℕ → Option Parts → Option Range
range_parts least most s None = range_between least most (decimal_of s) (decimal_of s)
range_parts least most s (Some p) = range_between least most (decimal_of p.front) (decimal_of p.back)

-- `n` or `m-n`
unfoldable pub number_range : ℕ → ℕ → List ℕ → Option Range
number_range least most s = range_parts least most s (part_at (byte "-") s)

-- bytes of the user alphabet, or `<owner>`, `<caller>`
unfoldable pub is_id : List ℕ → Bool
is_id v = bytes_eq v (bytes "<owner>") || (bytes_eq v (bytes "<caller>") || not (null v) && list_all name_byte v)

-- the size before the form
unfoldable pub id_of : Id → List ℕ → Result Setting Cause
id_of i v = require (leb (length v) id_limit) IdLength (require (is_id v) OptionValue (Ok (set_id i v)))

-- `y` or `n`
unfoldable pub auth_of : List ℕ → Result Setting Cause
auth_of v = cond (bytes_eq v (bytes "y")) (Ok (set_auth true)) (cond (bytes_eq v (bytes "n")) (Ok (set_auth false)) (Err OptionValue))

-- a number from 0 to most, as an integer
abbrev pub minutes_of : (ℕ → ℤ) → ℕ → Option ℕ → Result Setting Cause
minutes_of f most (Some n) = require (leb n most) OptionValue (Ok (set_timeout (f n)))
minutes_of f most None = Err OptionValue

-- -32,768 to 32,767, one to five digits after an optional `-`
unfoldable pub timeout_of : List ℕ → Result Setting Cause
timeout_of v = cond (starts_with (bytes "-") v) (minutes_of (λ n. neg_ℤ (pos n)) most_below (decimal_of (drop 1 v))) (minutes_of pos most_minutes (decimal_of v))

-- 0 to 64, m not above n
abbrev pub nargs_of : List ℕ → Result Setting Cause
nargs_of v = needed OptionValue (number_range 0 most_nargs v) (λ r. Ok (set_nargs r))

-- any value but `shell`, an empty one too, is another kind
abbrev pub patterns_of : List ℕ → Result Setting Cause
patterns_of v = require (bytes_eq v (bytes "shell")) PatternKind (Ok set_shell)

-- a pattern is well formed, then not too large
unfoldable pub argument_of : Range → List ℕ → Result Setting Cause
argument_of r v = and_then (expanded Plain v) (λ e. Ok (set_argument r e))

-- an option by its name and its value; argN and argM-N with 1 to 64, M not above N; patterns on `:global` only
unfoldable pub option_named : Bool → (name value : List ℕ) → Option (Result Setting Cause)
option_named global n v =
    cond (bytes_eq n (bytes "uid")) (Some (id_of Uid v))
    (cond (bytes_eq n (bytes "euid")) (Some (id_of Euid v))
    (cond (bytes_eq n (bytes "gid")) (Some (id_of Gid v))
    (cond (bytes_eq n (bytes "egid")) (Some (id_of Egid v))
    (cond (bytes_eq n (bytes "auth")) (Some (auth_of v))
    (cond (bytes_eq n (bytes "timeout")) (Some (timeout_of v))
    (cond (bytes_eq n (bytes "nargs")) (Some (nargs_of v))
    (cond (global && bytes_eq n (bytes "patterns")) (Some (patterns_of v))
    (cond (starts_with (bytes "arg") n) (option_map (λ r. argument_of r v) (number_range 1 last_position (drop 3 n)))
    None))))))))

-- what stands before and behind the first `=`, where there is one
abbrev pub option_parts : Bool → Option Parts → Option (Result Setting Cause)
option_parts global None = None
option_parts global (Some p) = option_named global p.front p.back

-- a field's text as an option, where it is one
unfoldable pub option_of : Bool → List ℕ → Option (Result Setting Cause)
option_of global t = option_parts global (part_at (byte "=") t)

-- the set of a line's settings
unfoldable pub options_of : List Setting → Options
options_of [] = no_options
options_of (s ∷ ss) = over s.options (options_of ss)

-- the argument patterns of a line, in written order
unfoldable pub arguments_of : List Setting → List ArgumentPattern
arguments_of [] = []
arguments_of (s ∷ ss) = s.arguments ++ arguments_of ss

-- the setting is of the option with that number
abbrev pub is_option : ℕ → Setting → Bool
is_option k s = eqb s.which k

-- `patterns=shell` is among them
unfoldable pub has_shell : List Setting → Bool
has_shell ss = list_any (is_option 7) ss

-- the same option stands twice, argument patterns excepted
unfoldable pub twice : List Setting → Bool
twice [] = false
twice (s ∷ ss) = ltb s.which 8 && list_any (is_option s.which) ss || twice ss
