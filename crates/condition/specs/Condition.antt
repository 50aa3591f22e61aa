-- One condition from a field's text: its `!`, its prefix, and the alternatives of the pattern behind it (01, "Entries").
use Rattle.std.specs.Option.{option_map}
use Rattle.std.specs.Prelude.{ℕ, Bool, true, false, not, cond, ◌||◌, List, drop, Ok, Option, Result}
use Rattle.text.specs.Bytes.{bytes, byte}
use Rattle.text.specs.Lists.{has}
use Rattle.text.specs.Slice.{starts_with, head_is}
use Rattle.fault.specs.Fault.{and_then, read_all, needed, require}
use Rattle.fault.specs.declared.Cause.{Cause}
use Rattle.fault.specs.declared.Cause.TheVariants.{Alternative as BadAlternative, TimeItem, OptionName}
use Rattle.pattern.specs.declared.Syntax.{Syntax}
use Rattle.pattern.specs.declared.Syntax.TheVariants.{Condition as ConditionKind, Time as TimeKind}
use Rattle.pattern.specs.Tree.{expanded}
use Rattle.matching.specs.Alternative.{alternative_of}
use Rattle.times.specs.Item.{item_of, item_matches}
use Rattle.condition.specs.Rightmost.{Judged, judged}
use Rattle.condition.specs.Users.{user_applies, group_applies}

-- what a condition asks for
pub data Sort : Type 0 where
  user group time : Sort

-- a condition behind its `!`: what it asks for, whether a prefix says so, and the pattern
pub record Prefixed : Type 0 where
  pub sort : Sort
  pub written : Bool
  pub pattern : List ℕ

-- a condition behind its `!`, by its three parts
abbrev pub behind_prefix : Sort → Bool → List ℕ → Prefixed
behind_prefix s w p = record { sort = s; written = w; pattern = p }

-- "`PAT`, `user~PAT`, `group~PAT`", "`time~`"
unfoldable pub prefixed : List ℕ → Prefixed
prefixed t =
    cond (starts_with (bytes "user~") t) (behind_prefix user true (drop 5 t))
    (cond (starts_with (bytes "group~") t) (behind_prefix group true (drop 6 t))
    (cond (starts_with (bytes "time~") t) (behind_prefix time true (drop 5 t))
    (behind_prefix user false t)))

-- says of a brace-free expansion whether it applies to the question; none where it has no good form
abbrev pub Judge : Type 0
Judge = Sort → List ℕ → Option Bool

-- the judge of a question: "the user, or some group, matches", the minute is one of the item's
unfoldable pub judge_of : (user : List ℕ) (groups : List (List ℕ)) (host : List ℕ) (minute : ℕ) → Judge
judge_of caller groups host minute user e = option_map (user_applies caller host) (alternative_of e)
judge_of caller groups host minute group e = option_map (group_applies groups host) (alternative_of e)
judge_of caller groups host minute time e = option_map (λ i. item_matches i minute) (item_of e)

-- in a time item only braces and commas mean anything
abbrev pub kind_for : Sort → Syntax
kind_for user = ConditionKind
kind_for group = ConditionKind
kind_for time = TimeKind

-- the cause of an expansion without a good form
abbrev pub cause_for : Sort → Cause
cause_for user = BadAlternative
cause_for group = BadAlternative
cause_for time = TimeItem

-- one expansion: an alternative of a condition that a `!` negates or not
unfoldable pub alternative_read : Judge → (negated : Bool) → Sort → List ℕ → Result Judged Cause
alternative_read judge negated s e = needed (cause_for s) (judge s e) (λ a. Ok (judged negated a))

-- "Each brace-free expansion is one alternative"
unfoldable pub alternatives_of : Judge → (negated : Bool) → Sort → List ℕ → Result (List Judged) Cause
alternatives_of judge negated s p = and_then (expanded (kind_for s) p) (read_all (alternative_read judge negated s))

-- a condition: what it asks for, and its alternatives
pub record Condition : Type 0 where
  pub sort : Sort
  pub alternatives : List Judged

-- "A field with `=` that is no option and no condition with its prefix is 14"
abbrev pub condition_in : Judge → (negated equals : Bool) → Prefixed → Result Condition Cause
condition_in judge negated equals c =
    require (c.written || not equals) OptionName
    (and_then (alternatives_of judge negated c.sort c.pattern) (λ xs.
    Ok (record { sort = c.sort; alternatives = xs })))

-- a condition behind its `!`
unfoldable pub condition_behind : Judge → (negated : Bool) → List ℕ → Result Condition Cause
condition_behind judge negated t = condition_in judge negated (has (byte "=") t) (prefixed t)

-- "each with an optional `!` in front that covers all its alternatives"
unfoldable pub condition_of : Judge → List ℕ → Result Condition Cause
condition_of judge t = cond (head_is (byte "!") t) (condition_behind judge true (drop 1 t)) (condition_behind judge false t)
