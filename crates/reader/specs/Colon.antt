-- Lines that begin with a colon: `:define`, `:global`, `:if` (01, "Lines that begin with a colon").
use Rattle.std.specs.Str.{bytes_eq}
use Rattle.std.specs.Prelude.{ℕ, Bool, true, false, not, cond, ◌||◌, List, [], ◌∷◌, drop, Err, None, Ok, Option, Result, Some}
use Rattle.text.specs.Bytes.{bytes}
use Rattle.text.specs.Lists.{null}
use Rattle.fault.specs.Fault.{and_then, read_all, with_first, needed, require}
use Rattle.fault.specs.declared.Cause.{Cause}
use Rattle.fault.specs.declared.Cause.TheVariants.{IfDepth, OptionName, ColonWord as BadWord, Operator as NoOperator, SurplusField, MissingPart, OptionTwice}
use Rattle.variables.specs.Scope.{Scope, Definition, definition}
use Rattle.variables.specs.Define.{define_name, define_text, define_in}
use Rattle.variables.specs.Substitute.{field_text, field_as}
use Rattle.options.specs.Read.{Setting, option_of, twice}
use Rattle.reader.specs.declared.word.ColonWord.{ColonWord}
use Rattle.reader.specs.declared.word.ColonWord.TheVariants.{Define, Global, If}
use Rattle.reader.specs.declared.conditional.Operator.{Operator}
use Rattle.reader.specs.declared.conditional.Operator.TheVariants.{Equal, NotEqual}
use Rattle.reader.specs.State.{State, with_definition, with_settings}

-- ---- `:define`
-- a field behind the text: its own fault, or that it stands there
abbrev pub surplus_field : Scope → List ℕ → Result (List ℕ) Cause
surplus_field sc f = field_as sc (λ u. Err SurplusField) f

-- nothing stands behind the text
abbrev pub last_read : Scope → List ℕ → List (List ℕ) → Result (List ℕ) Cause
last_read sc t [] = Ok t
last_read sc t (f ∷ fs) = surplus_field sc f

-- the text behind the name
abbrev pub text_read : Scope → List (List ℕ) → Result (List ℕ) Cause
text_read sc fs = with_first (field_as sc define_text) fs (last_read sc)

-- the definition of a name, with the text behind it
abbrev pub named_read : Scope → List ℕ → List (List ℕ) → Result Definition Cause
named_read sc n fs = and_then (text_read sc fs) (λ t. Ok (definition n t))

-- the definition that the fields make, but for the number of names
unfoldable pub definition_read : Scope → List (List ℕ) → Result Definition Cause
definition_read sc fs = with_first (field_as sc define_name) fs (named_read sc)

-- `:define NAME text`; last of all, too many names
unfoldable pub define_line : Scope → State → List (List ℕ) → Result State Cause
define_line sc s fs = and_then (definition_read sc fs) (λ d. and_then (define_in d s.definitions) (λ ds. Ok (with_definition d s)))

-- ---- `:global`
-- a text that is no option is malformed
abbrev pub global_setting : List ℕ → Result Setting Cause
global_setting t = needed OptionName (option_of true t) (λ r. r)

-- a field of the line
abbrev pub global_field : Scope → List ℕ → Result Setting Cause
global_field sc = field_as sc global_setting

-- the settings of the line: options only, at least one, none twice
unfoldable pub global_read : Scope → List (List ℕ) → Result (List Setting) Cause
global_read sc fs = and_then (read_all (global_field sc) fs) (λ ss. require (not (null ss)) MissingPart (require (not (twice ss)) OptionTwice (Ok ss)))

-- `:global` and its options
unfoldable pub global_line : Scope → State → List (List ℕ) → Result State Cause
global_line sc s fs = and_then (global_read sc fs) (λ ss. Ok (with_settings ss s))

-- ---- `:if`
-- any other operator is malformed
unfoldable pub operator_of : List ℕ → Result Operator Cause
operator_of t = cond (bytes_eq t (bytes "==")) (Ok Equal) (cond (bytes_eq t (bytes "!=")) (Ok NotEqual) (Err NoOperator))

-- whether the bytes compare as the operator says
abbrev pub operator_holds : Operator → List ℕ → List ℕ → Bool
operator_holds Equal a b = bytes_eq a b
operator_holds NotEqual a b = not (bytes_eq a b)

-- whether the rest is taken, which must not be empty
abbrev pub before_rest : Operator → List ℕ → List ℕ → List (List ℕ) → Result Bool Cause
before_rest o a b rest = require (not (null rest)) MissingPart (Ok (operator_holds o a b))

-- B behind the operator
abbrev pub behind_operator : Scope → List ℕ → Operator → List (List ℕ) → Result Bool Cause
behind_operator sc a o fs = with_first (field_text sc) fs (before_rest o a)

-- the operator behind A
abbrev pub behind_left : Scope → List ℕ → List (List ℕ) → Result Bool Cause
behind_left sc a fs = with_first (field_as sc operator_of) fs (behind_operator sc a)

-- `A == B rest`: whether the rest is taken
unfoldable pub comparison : Scope → List (List ℕ) → Result Bool Cause
comparison sc fs = with_first (field_text sc) fs (behind_left sc)

-- the rest is read where it is taken
abbrev pub rest_if : (List (List ℕ) → Result State Cause) → State → List (List ℕ) → Bool → Result State Cause
rest_if deeper s rest true = deeper rest
rest_if deeper s rest false = Ok s

-- `:if A == B rest`, with a reader for the rest, which stands behind three fields; none where it stands too deep
unfoldable pub if_line : Scope → Option (List (List ℕ) → Result State Cause) → State → List (List ℕ) → Result State Cause
if_line sc None s fs = Err IfDepth
if_line sc (Some deeper) s fs = and_then (comparison sc fs) (rest_if deeper s (drop 3 fs))

-- ---- the colon word
-- any other colon word is malformed
unfoldable pub word_of : List ℕ → Result ColonWord Cause
word_of w =
    cond (bytes_eq w (bytes ":define")) (Ok Define)
    (cond (bytes_eq w (bytes ":global") || bytes_eq w (bytes ":global_options")) (Ok Global)
    (cond (bytes_eq w (bytes ":if")) (Ok If)
    (Err BadWord)))

-- the fields behind the word
abbrev pub by_word : Scope → Option (List (List ℕ) → Result State Cause) → State → List (List ℕ) → ColonWord → Result State Cause
by_word sc deeper s fs Define = define_line sc s fs
by_word sc deeper s fs Global = global_line sc s fs
by_word sc deeper s fs If = if_line sc deeper s fs
