-- What an argument is where an option may stand.
use Rattle.std.specs.Str.{bytes_eq}
use Rattle.std.specs.List.{list_any}
use Rattle.std.specs.Prelude.{ℕ, Bool, true, false, cond, not, ◌&&◌, List, [], ◌∷◌}
use Rattle.text.specs.Bytes.{byte, bytes}
use Rattle.text.specs.Slice.{head_is}
use Rattle.command_line.specs.declared.word.Word.{Word}
use Rattle.command_line.specs.declared.word.Word.TheVariants.{Operand, Dash, EndOfOptions, OtherOption, Check, Su, Log, ReadLog, Figures, Help, Version}
use Rattle.command_line.specs.contracts.word.Word.{the_type}
use denote.Enum.Bare.{sameb}

-- it is this word
abbrev pub is_word : (w x : Word) → Bool
is_word w x = sameb the_type x w

-- the word is there
abbrev pub is_given : Word → List Word → Bool
is_given w ws = list_any (is_word w) ws

-- an option, known or not
abbrev pub is_option : Word → Bool
is_option Operand = false
is_option Dash = false
is_option EndOfOptions = false
is_option OtherOption = true
is_option Check = true
is_option Su = true
is_option Log = true
is_option ReadLog = true
is_option Figures = true
is_option Help = true
is_option Version = true

abbrev pub is_known : Word → Bool
is_known w = is_option w && not (is_word OtherOption w)

-- an option as it is written, and its word
pub record KnownOption : Type 0 where
  pub text : List ℕ
  pub word : Word

-- this text for this word
abbrev pub known : List ℕ → Word → KnownOption
known t w = record { text = t; word = w }

-- what the program knows of what begins with `-`
unfoldable pub options : List KnownOption
options =
    known (bytes "-") Dash
    ∷ known (bytes "--") EndOfOptions
    ∷ known (bytes "--check") Check
    ∷ known (bytes "--su") Su
    ∷ known (bytes "--log") Log
    ∷ known (bytes "--read-log") ReadLog
    ∷ known (bytes "--figures") Figures
    ∷ known (bytes "--help") Help
    ∷ known (bytes "-h") Help
    ∷ known (bytes "--version") Version
    ∷ []

-- the word of the option that is written so
unfoldable pub named : List ℕ → List KnownOption → Word
named s [] = OtherOption
named s (o ∷ os) = cond (bytes_eq s o.text) o.word (named s os)

-- an operand does not begin with `-`
unfoldable pub word_of : List ℕ → Word
unfolding head_is named options
word_of s = cond (head_is (byte "-") s) (named s options) Operand
