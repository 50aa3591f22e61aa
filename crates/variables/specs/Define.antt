-- `:define NAME text`: its name, its text, and the variables behind it (01, "Lines that begin with a colon").
use Rattle.std.specs.Prelude.{not, ◌&&◌, List, ℕ, leb, length, Ok, Result}
use Rattle.fault.specs.Fault.{require}
use Rattle.fault.specs.declared.Cause.{Cause}
use Rattle.fault.specs.declared.Cause.TheVariants.{NameLength, TextLength, DefineName, TooManyNames}
use Rattle.variables.specs.Scope.{Definition, define, is_name, built_in}

-- the limits of 01: bytes of a name, bytes of a text, different names
abbrev pub name_limit : ℕ
name_limit = 64

-- the most bytes of a text
abbrev pub text_limit : ℕ
text_limit = 256

-- the most different names
abbrev pub names_limit : ℕ
names_limit = 64

-- the name's size, then its form; the built-in names can't be redefined
unfoldable pub define_name : List ℕ → Result (List ℕ) Cause
define_name n = require (leb (length n) name_limit) NameLength (require (is_name n && not (built_in n)) DefineName (Ok n))

-- the text's size
unfoldable pub define_text : List ℕ → Result (List ℕ) Cause
define_text t = require (leb (length t) text_limit) TextLength (Ok t)

-- the variables with one definition more; last of all, whether they are too many
unfoldable pub define_in : Definition → List Definition → Result (List Definition) Cause
define_in d ds = require (leb (length (define d ds)) names_limit) TooManyNames (Ok (define d ds))
