-- The options, which stand first and in any order: each is one word, with its file in the word behind it where it takes one.
use Rattle.std.specs.List.{list_any}
use Rattle.std.specs.Prelude.{ℕ, suc, ◌+◌, Bool, cond, not, ◌&&◌, ◌||◌, List, [], ◌∷◌, ◌++◌, length, position, Option, Some, None, Err, Ok, Result}
use Rattle.command_line.specs.Word.{is_word, is_given, is_option}
use Rattle.command_line.specs.declared.word.Word.{Word}
use Rattle.command_line.specs.declared.word.Word.TheVariants.{Operand, Dash, OtherOption, Check, Su, Log}
use Rattle.command_line.specs.declared.options.Pair.{Pair}
use Rattle.command_line.specs.declared.request.Misuse.{Misuse}
use Rattle.command_line.specs.declared.request.Misuse.TheVariants.{NoLog, LogToOutput, UnknownOption, GivenTwice, CannotStandWith}

-- its file stands behind it
unfoldable pub takes_file : Word → Bool
takes_file w = is_word Log w

-- the word belongs to the options, behind this one: it is the file that this one takes, or else an option
unfoldable pub belongs : (before w : Word) → Bool
unfolding takes_file
belongs before w = cond (takes_file before) (is_word Operand w) (is_option w)

-- how many of the words that stand behind this one belong to the options
unfoldable pub option_count : (before : Word) → List Word → ℕ
unfolding belongs
option_count before [] = 0
option_count before (w ∷ ws) = cond (belongs before w) (suc (option_count w ws)) 0

abbrev pub pair : (one other : Word) → Pair
pair a b = record { one = a; other = b }

-- all that may stand together
unfoldable pub pairs : List Pair
pairs = pair Check Su ∷ []

-- these two are those two
unfoldable pub are_those : (a b one other : Word) → Bool
are_those a b one other = is_word one a && is_word other b

-- the pair is these two, in either order
unfoldable pub is_pair : (a b : Word) → Pair → Bool
unfolding are_those
is_pair a b p = are_those a b p.one p.other || are_those b a p.one p.other

unfoldable pub stands_with : (a b : Word) → Bool
unfolding is_pair pairs
stands_with a b = list_any (is_pair a b) pairs

-- the word x is an option with which w cannot stand
unfoldable pub excludes : (w x : Word) → Bool
unfolding stands_with
excludes w x = is_option x && not (stands_with x w)

-- the number n of a word cannot stand with that of the word at a place, if there is one
abbrev pub stands_apart : (n : ℕ) → Option ℕ → Result Unit Misuse
stands_apart n (Some i) = Err (CannotStandWith n (i + 1))
stands_apart n None = Ok tt

-- what is wrong with a word that belongs to the options, behind these
unfoldable pub wrong_option : (before : List Word) → Word → Result Unit Misuse
unfolding excludes
wrong_option before w =
    cond (is_word Operand w) (Ok tt)
    (cond (is_word OtherOption w) (Err (UnknownOption (length before + 1)))
    (cond (is_given w before) (Err (GivenTwice (length before + 1)))
    (stands_apart (length before + 1) (position (excludes w) before))))

-- the first wrong use, or else the second
abbrev pub first_bad : Result Unit Misuse → Result Unit Misuse → Result Unit Misuse
first_bad (Ok tt) c = c
first_bad (Err m) c = Err m

-- the first of the words that is wrong
unfoldable pub wrong_among : (before : List Word) → List Word → Result Unit Misuse
unfolding wrong_option
wrong_among before [] = Ok tt
wrong_among before (w ∷ ws) = first_bad (wrong_option before w) (wrong_among (before ++ (w ∷ [])) ws)

-- what stands for the file of an option, in the word with number n: `-`, another option, or nothing
unfoldable pub no_file : ℕ → List Word → Misuse
no_file n [] = NoLog
no_file n (w ∷ ws) = cond (is_word Dash w) LogToOutput (UnknownOption n)

-- the last of the options lacks its file
unfoldable pub file_missing : (before : Word) → ℕ → List Word → Result Unit Misuse
unfolding takes_file no_file
file_missing before n rest = cond (takes_file before) (Err (no_file n rest)) (Ok tt)
