-- What only contracts and proofs cite: the causes in their order.
use Rattle.std.specs.Prelude.{ℕ, ◌<◌, ◌≡◌, List, [], ◌∷◌, length, get_or}
use Rattle.fault.specs.declared.Cause.{Cause}
use Rattle.fault.specs.declared.Cause.TheVariants.{LineLength, Indent, OpenQuote, FieldCount, Variable, FieldLength, Pattern, PatternSize, NameLength, TextLength, IdLength, IfDepth, Alternative, TimeItem, OptionName, OptionValue, PatternKind, EntryTooEarly, ColonWord, DefineName, Operator, LatePair, Path, SurplusField, MissingPart, OptionTwice, TooManyNames}

-- all causes, in the order in which they are counted
abbrev pub causes : List Cause
causes = LineLength ∷ Indent ∷ OpenQuote ∷ FieldCount ∷ Variable ∷ FieldLength ∷ Pattern ∷ PatternSize ∷ NameLength ∷ TextLength ∷ IdLength ∷ IfDepth ∷ Alternative ∷ TimeItem ∷ OptionName ∷ OptionValue ∷ PatternKind ∷ EntryTooEarly ∷ ColonWord ∷ DefineName ∷ Operator ∷ LatePair ∷ Path ∷ SurplusField ∷ MissingPart ∷ OptionTwice ∷ TooManyNames ∷ []

-- the cause is the i-th of them; the first is 0
abbrev pub IndexOf : Cause → ℕ → Type 0
IndexOf c i = (i < length causes) × (get_or causes i LineLength ≡ c)
