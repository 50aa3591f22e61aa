-- Causes of faults in a control line: the number of each (01, "Answer numbers"), and reading that stops at the first.
use Rattle.std.specs.Prelude.{ℕ, Bool, true, false, List, [], ◌∷◌, Err, None, Ok, Option, Result, Some}
use Rattle.fault.specs.declared.Cause.{Cause}
use Rattle.fault.specs.declared.Cause.TheVariants.{LineLength, Indent, OpenQuote, FieldCount, Variable, FieldLength, Pattern, PatternSize, NameLength, TextLength, IdLength, IfDepth, Alternative, TimeItem, OptionName, OptionValue, PatternKind, EntryTooEarly, ColonWord, DefineName, Operator, LatePair, Path, SurplusField, MissingPart, OptionTwice, TooManyNames}

-- 14 control line malformed, 15 a size passed inside it, 16 an entry before `patterns=shell` or another kind, 18 more than 64 names
unfoldable pub number_of : Cause → ℕ
number_of LineLength = 15
number_of Indent = 14
number_of OpenQuote = 14
number_of FieldCount = 15
number_of Variable = 14
number_of FieldLength = 15
number_of Pattern = 14
number_of PatternSize = 15
number_of NameLength = 15
number_of TextLength = 15
number_of IdLength = 15
number_of IfDepth = 15
number_of Alternative = 14
number_of TimeItem = 14
number_of OptionName = 14
number_of OptionValue = 14
number_of PatternKind = 16
number_of EntryTooEarly = 16
number_of ColonWord = 14
number_of DefineName = 14
number_of Operator = 14
number_of LatePair = 14
number_of Path = 14
number_of SurplusField = 14
number_of MissingPart = 14
number_of OptionTwice = 14
number_of TooManyNames = 18

module _ {F A B : Type 0} where
  -- the first fault wins: the next reading is done where this one has none
  abbrev pub and_then : Result A F → (A → Result B F) → Result B F
  and_then (Err c) f = Err c
  and_then (Ok a) f = f a

  -- a value that must be there
  abbrev pub needed : F → Option A → (A → Result B F) → Result B F
  needed c None f = Err c
  needed c (Some a) f = f a

-- each in order, up to the first fault
module _ {F A B : Type 0} where
  unfoldable pub read_all : (A → Result B F) → List A → Result (List B) F
  read_all f [] = Ok []
  read_all f (x ∷ xs) = and_then (f x) (λ y. and_then (read_all f xs) (λ ys. Ok (y ∷ ys)))

module _ {A B : Type 0} where
  -- the first field of a line, and then those behind it; a part is missing where there is no field
  abbrev pub with_first : (List ℕ → Result A Cause) → List (List ℕ) → (A → List (List ℕ) → Result B Cause) → Result B Cause
  with_first r [] k = Err MissingPart
  with_first r (f ∷ fs) k = and_then (r f) (λ a. k a fs)

module _ {F A : Type 0} where
  -- a check: its fault where the test fails
  abbrev pub require : Bool → F → Result A F → Result A F
  require true c r = r
  require false c r = Err c
