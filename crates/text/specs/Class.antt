-- The class of a byte, by ranges (01: "Every byte value from 0 to 255 has one class"), and the tests on one byte.
use Rattle.std.specs.Prelude.{ℕ, Bool, not, cond, ◌&&◌, ◌||◌, leb}
use Rattle.text.specs.Bytes.{byte, is}
use Rattle.text.specs.declared.class.Class.{Class}
use Rattle.text.specs.declared.class.Class.TheVariants.{Blank, Newline, Letter, Digit, Underscore, Quote, Other, Mark, Refused}

-- from x to y, both counted
abbrev pub within : ℕ → ℕ → ℕ → Bool
within x y b = leb x b && leb b y

-- from `low` to `high`, both counted
pub record Range : Type 0 where
  pub low : ℕ
  pub high : ℕ

-- the range from m to n
abbrev pub range : ℕ → ℕ → Range
range m n = record { low = m; high = n }

-- the number is one of the range's
abbrev pub in_range : Range → ℕ → Bool
in_range r n = within r.low r.high n

-- space, tab
unfoldable pub blank : ℕ → Bool
blank b = is " " b || is "\t" b

-- a letter of either case
unfoldable pub letter : ℕ → Bool
letter b = within (byte "A") (byte "Z") b || within (byte "a") (byte "z") b

-- 0 to 9
unfoldable pub digit : ℕ → Bool
digit b = within (byte "0") (byte "9") b

-- letter, digit, underscore
unfoldable pub word_byte : ℕ → Bool
unfolding letter digit
word_byte b = letter b || (digit b || is "_" b)

-- the user alphabet: letters, digits, `.`, `_`, `-`
unfoldable pub name_byte : ℕ → Bool
unfolding word_byte letter digit
name_byte b = word_byte b || (is "." b || is "-" b)

-- 0x20 to 0x7E
unfoldable pub printable : ℕ → Bool
printable b = within (byte " ") (byte "~") b

-- a command's bytes: "from 0x21 to 0x7E, no `:`"
unfoldable pub command_byte : ℕ → Bool
command_byte b = within (byte "!") (byte "~") b && not (is ":" b)

-- 01: blank, newline, letter, digit, underscore, quote, other printable, refused (see 12), and mark, all the rest
unfoldable pub class_of : ℕ → Class
unfolding blank letter digit printable
class_of b =
    cond (blank b) Blank
    (cond (is "\n" b) Newline
    (cond (letter b) Letter
    (cond (digit b) Digit
    (cond (is "_" b) Underscore
    (cond (is "\"" b || is "'" b) Quote
    (cond (is "%" b || is "&" b || (is ";" b || is "`" b)) Other
    (cond (printable b) Mark
    Refused)))))))
