-- What the code keeps of the alternatives so far, and what its answers say.
use Rattle.std.specs.Option.{option_map, option_or}
use Rattle.std.specs.List.{list_any}
use Rattle.std.specs.Prelude.{ℕ, ◌≤◌, ◌≡◌, Bool, true, false, ◌&&◌, List, [], ◌∷◌, leb, length, drop, Err, None, Ok, Option, Result, Some}
use Rattle.text.specs.Limits.{field_limit}
use Rattle.fault.specs.Fault.{read_all, require}
use Rattle.fault.specs.declared.Cause.{Cause}
use Rattle.fault.specs.declared.Cause.TheVariants.{FieldLength}
use Rattle.pattern.specs.declared.Syntax.{Syntax}
use Rattle.pattern.specs.declared.alternatives.Alternative.{Alternative as Found}
use Rattle.pattern.specs.Tree.{pattern_of, list_of, expanded}
use Rattle.pattern.specs.Whole.{expansions_of}
use Rattle.pattern.specs.Contract.{HasNumber, expansions_in, Few, AlternativeAt}
use Rattle.question.specs.declared.WeekMinute.{WeekMinute}
use Rattle.question.specs.Contract.{strings_in}
use Rattle.glob.specs.Match.{matches}
use Rattle.matching.specs.Alternative.{Alternative}
use Rattle.condition.specs.declared.rightmost.Rightmost.{Rightmost}
use Rattle.condition.specs.declared.prefix.Asks.{Asks}
use Rattle.condition.specs.declared.prefix.Asks.TheVariants.{User, Group, Time}
use Rattle.condition.specs.declared.prefix.Prefix.{Prefix}
use Rattle.condition.specs.declared.condition.ConditionRead.{ConditionRead}
use Rattle.condition.specs.declared.condition.ConditionRead.TheVariants.{Users, Times}
use Rattle.condition.specs.Rightmost.{Judged, said_by}
use Rattle.condition.specs.Users.{on_host}
use Rattle.condition.specs.Condition.{Sort, user, group, time, Prefixed, behind_prefix, Judge, judge_of, alternative_read, condition_of, Condition}

-- no alternative so far
abbrev pub none_kept : Rightmost
none_kept = record { said = None; negated = true; some = false }

-- with one alternative more
unfoldable pub added : Rightmost → Judged → Rightmost
added r x = record {
  said = option_or (said_by x) r.said;
  negated = r.negated && x.negated;
  some = true;
}

-- with all of these
unfoldable pub added_all : Rightmost → List Judged → Rightmost
unfolding added
added_all r [] = r
added_all r (x ∷ xs) = added_all (added r x) xs

-- what the code's words stand for
abbrev pub sort_in : Asks → Sort
sort_in User = user
sort_in Group = group
sort_in Time = time

abbrev pub prefixed_in : List ℕ → Prefix → Prefixed
prefixed_in t p = behind_prefix (sort_in p.asks) p.written (drop p.at t)

-- a judge who finds the same alternatives malformed, and lets none apply unless something is to be judged
abbrev pub judge_if : Bool → Judge → Judge
judge_if judging judge s e = option_map (λ b. judging && b) (judge s e)

-- the judge of a question, with the groups as zero-ended strings
unfoldable pub judge_by : Bool → (user groups host : List ℕ) (minute : ℕ) → Judge
judge_by judging u gs h m = judge_if judging (judge_of u (strings_in gs) h m)

-- the user, or some group, matches
unfoldable pub name_applies : Sort → (user : List ℕ) (groups : List (List ℕ)) (pattern : List ℕ) → Bool
name_applies user u gs p = matches p u
name_applies group u gs p = list_any (matches p) gs
name_applies time u gs p = false

-- the name and the host
unfoldable pub applies_by : Sort → (user : List ℕ) (groups : List (List ℕ)) (host : List ℕ) → Alternative → Bool
unfolding name_applies
applies_by s u gs h a = name_applies s u gs a.name && on_host h a.host

-- what is kept with the alternatives of a reading, or its fault
unfoldable pub added_by : Rightmost → Result (List Judged) Cause → Result Rightmost Cause
added_by r (Err c) = Err c
added_by r (Ok xs) = Ok (added_all r xs)

-- what is kept with these expansions of a condition, each judged in turn, or the fault of the first that has one
abbrev pub added_with : (judging : Bool) (user groups host : List ℕ) (minute : WeekMinute) (negated : Bool) (asks : Asks) → Rightmost → List (List ℕ) → Result Rightmost Cause
added_with judging u gs h m negated asks kept es = added_by kept (read_all (alternative_read (judge_by judging u gs h m.0) negated (sort_in asks)) es)

-- the brace-free expansions of the alternative that begins at a place of a pattern
abbrev pub expansions_from : Syntax → List ℕ → ℕ → List (List ℕ)
expansions_from syntax p at = expansions_in (pattern_of syntax false (drop at p))

-- a pattern that a field can hold, without a fault
pub record GoodPattern (syntax : Syntax) (p : List ℕ) : Type 0 where
  pub short : length p ≤ field_limit
  pub good : expanded syntax p ≡ Ok (expansions_of syntax p)

-- what was found at a place of a pattern that a field can hold, with at most 64 expansions from there on
pub record FoundAt (syntax : Syntax) (p : List ℕ) (at : ℕ) (found : Found) : Type 0 where
  pub short : length p ≤ field_limit
  pub within : at ≤ length p
  pub few : Few (list_of syntax false (drop at p))
  pub told : AlternativeAt p at (Some found) (pattern_of syntax false (drop at p))

-- an alternative at a place of a pattern that a field can hold, with so many expansions, at most 64
pub record HasBraces (syntax : Syntax) (p : List ℕ) (at number : ℕ) : Type 0 where
  pub short : length p ≤ field_limit
  pub within : at ≤ length p
  pub numbers : HasNumber (pattern_of syntax false (drop at p)) number
  pub few : number ≤ 64

-- users and groups are kept together, times apart
abbrev pub kept_for : Sort → (users times : Rightmost) → Rightmost
kept_for user us ts = us
kept_for group us ts = us
kept_for time us ts = ts

abbrev pub read_for : Sort → Rightmost → ConditionRead
read_for user r = Users r
read_for group r = Users r
read_for time r = Times r

-- what a condition comes to: its fault, or what is kept of its sort with its alternatives
unfoldable pub condition_read : (users times : Rightmost) → Result Condition Cause → Result ConditionRead Cause
condition_read us ts (Err c) = Err c
condition_read us ts (Ok c) = Ok (read_for c.sort (added_all (kept_for c.sort us ts) c.alternatives))

-- what a field's text comes to as a condition, once it is not too long
abbrev pub condition_told : (judging : Bool) (user groups host : List ℕ) (minute : WeekMinute) (users times : Rightmost) → List ℕ → Result ConditionRead Cause
condition_told judging u gs h m us ts t = condition_read us ts (require (leb (length t) field_limit) FieldLength (condition_of (judge_if judging (judge_of u (strings_in gs) h m.0)) t))
