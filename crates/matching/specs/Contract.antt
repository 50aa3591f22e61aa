-- What the answers of the functions say: they hold places and numbers, those of the definitions lists.
use Rattle.std.specs.Option.{option_map}
use Rattle.std.specs.Prelude.{ℕ, ◌+◌, ◌-◌, ◌≤◌, ◌<◌, ◌≡◌, Bool, false, cond, List, [], ◌∷◌, length, ltb, drop, take, None, Ok, Option, Result, Some}
use Rattle.text.specs.Limits.{field_limit}
use Rattle.text.specs.Lists.{has}
use Rattle.fault.specs.Fault.{and_then}
use Rattle.fault.specs.declared.Cause.{Cause}
use Rattle.pattern.specs.declared.Syntax.{Syntax}
use Rattle.pattern.specs.Tree.{expanded}
use Rattle.pattern.specs.Whole.{expansions_of}
use Rattle.pattern.specs.Contract.{is_flat}
use Rattle.matching.specs.Alternative.{Alternative, parts_of, alternative_of}
use Rattle.matching.specs.declared.alternative.ByteContext.{ByteContext}
use Rattle.matching.specs.declared.alternative.ByteContext.TheVariants.{Free}
use Rattle.matching.specs.declared.alternative.Parted.{Parted}
use Rattle.matching.specs.declared.alternative.Parted.TheVariants.{Name, NameAtHost}
use Rattle.matching.specs.declared.field.Expanded.{Expanded}
use Rattle.matching.specs.declared.field.Expanded.TheVariants.{Flat, Number}

-- ---- the pattern of a field

-- what is told of the expansions of a pattern: that it is flat, or their number
abbrev pub expanded_as : Bool → List (List ℕ) → Expanded
expanded_as flat es = cond flat Flat (Number (length es))

-- the pattern of a field, as it is told
unfoldable pub pattern_field : Syntax → List ℕ → Result Expanded Cause
pattern_field syntax p = and_then (expanded syntax p) (λ es. Ok (expanded_as (is_flat syntax p) es))

-- ---- the expansions of a pattern

-- a pattern that a field can hold has so many
pub record Expands (syntax : Syntax) (p : List ℕ) (number : ℕ) : Type 0 where
  pub count : number ≡ length (expansions_of syntax p)
  pub short : length p ≤ field_limit

-- and so a k-th one
pub record ExpandsTo (syntax : Syntax) (p : List ℕ) (number k : ℕ) : Type 0 where
  pub expands : Expands syntax p number
  pub below : k < number

-- ---- an alternative

-- a first part, and those behind the `@` that ends it
abbrev pub parts_by : List ℕ → List ℕ → List (List ℕ)
parts_by p [] = p ∷ []
parts_by p (c ∷ s) = p ∷ parts_of Free s

-- r is where the first `@` that parts stands from `from` on, read in this context, or the length
pub record PartsFrom (w : ByteContext) (a : List ℕ) (from r : ℕ) : Type 0 where
  pub low : from ≤ r
  pub high : r ≤ length a
  pub parts : parts_of w (drop from a) ≡ parts_by (take (r - from) (drop from a)) (drop r a)

-- a byte that is no colon, no `~`, no `@`, no backslash and no bracket
pub record Simple (c : ℕ) : Type 0 where
  pub no_colon : c ≡ 58 → ⊥
  pub no_tilde : c ≡ 126 → ⊥
  pub no_at : c ≡ 64 → ⊥
  pub no_slash : c ≡ 92 → ⊥
  pub no_bracket : c ≡ 91 → ⊥

-- such a byte, tested range by range
abbrev pub is_simple : ℕ → Bool
is_simple c = cond (ltb 92 c) (ltb c 126) (cond (ltb 64 c) (ltb c 91) (ltb c 58))

-- bytes that are one part, without a colon or a `~`
pub record SimpleName (a : List ℕ) : Type 0 where
  pub no_colon : has 58 a ≡ false
  pub no_tilde : has 126 a ≡ false
  pub one : parts_of Free a ≡ a ∷ []

-- the alternative that an answer tells
abbrev pub parted_in : List ℕ → Parted → Alternative
parted_in a Name = record { name = a; host = None }
parted_in a (NameAtHost i) = record { name = take i a; host = Some (drop (i + 1) a) }

-- the `@` told stands in the bytes
abbrev pub PartedWithin : List ℕ → Option Parted → Type 0
PartedWithin a None = Unit {0}
PartedWithin a (Some Name) = Unit {0}
PartedWithin a (Some (NameAtHost i)) = i < length a

-- an answer tells the alternative that the bytes are
pub record TellsAlternative (a : List ℕ) (r : Option Parted) : Type 0 where
  pub within : PartedWithin a r
  pub same : option_map (parted_in a) r ≡ alternative_of a
