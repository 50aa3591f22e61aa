-- What a field gives, by where it stands: its settings, and where the next one stands.
use Rattle.std.specs.Prelude.{Err, None, Ok, Option, Result, Some}
use mathlib.Core.Path.{◌≡◌, refl, sym, ap, ◌∙◌}
use mathlib.Core.Bool.{Bool, true, false, not, cond}
use mathlib.Core.List.{List, [], ◌∷◌}
use Prim.Native.Nat.{ℕ, ◌+◌}
use lib.ListN.{take, drop}
use Rattle.text.specs.Slice.{find_pair}
use Rattle.fault.specs.Fault.{and_then, require}
use Rattle.fault.specs.declared.Cause.{Cause}
use Rattle.fault.specs.declared.Cause.TheVariants.{LatePair}
use Rattle.fault.proofs.Readings.{never, same_value}
use Rattle.pattern.specs.declared.Syntax.TheVariants.{Plain}
use Rattle.pattern.specs.Tree.{expanded}
use Rattle.options.specs.Read.{Setting, option_of}
use Rattle.condition.specs.Condition.{Judge, Condition, condition_of}
use Rattle.entry.specs.declared.position.Position.{Position as CodePosition}
use Rattle.entry.specs.declared.position.Position.TheVariants.{First, Second, Pairs, Rest}
use Rattle.entry.specs.declared.position.FieldKind.{FieldKind}
use Rattle.entry.specs.Field.{Entry, entry, no_field, Position, first, second, pairs, rest, FieldRead, field_read, a_pair, condition_part, found, has_pair, full_path, pair_at, pair_of, command_of, path_field, option_or, other_of, field_of}
use Rattle.entry.specs.Contract.{settings_in, kind_by, behind, is_other, position_of}
use Rattle.entry.proofs.EntryLaws.{other_settings}

-- a pair, a command pattern and a path give no setting, and the next field stands there
abbrev Bare : FieldRead → CodePosition → Type 0
Bare x d = (x.part.settings ≡ []) × (position_of x.next ≡ d)

module _ {x : FieldRead} where
  bare : {e : Entry} {next : Position} → e.settings ≡ [] → ◌≡◌ {A = Result FieldRead Cause} (Ok (field_read e next)) (Ok x) → Bare x (position_of next)
  bare n g = let h = same_value g in (sym (ap (λ z. z.part.settings) h) ∙ n, sym (ap (λ z. position_of z.next) h))

  path_bare : (es : List (List ℕ)) (next : Position) (o : Result (List ℕ) Cause) → and_then o (λ p. Ok (field_read (a_pair es p) next)) ≡ Ok x → Bare x (position_of next)
  path_bare es next (Err c) g = never g
  path_bare es next (Ok p) g = bare refl g

  pair_bare : (t : List ℕ) (i : ℕ) → pair_at t (Some i) ≡ Ok x → Bare x Pairs
  pair_bare t i g = go (expanded Plain (take i t)) g
    where
      go : (o : Result (List (List ℕ)) Cause) → and_then o (λ es. and_then (full_path (drop (i + 2) t)) (λ p. Ok (field_read (a_pair es p) pairs))) ≡ Ok x → Bare x Pairs
      go (Err c) g = never g
      go (Ok es) g = path_bare es pairs (full_path (drop (i + 2) t)) g

  command_bare : (t : List ℕ) → command_of t ≡ Ok x → Bare x Second
  unfolding command_of no_field
  command_bare t g = go (expanded Plain t) g
    where
      go : (o : Result (List (List ℕ)) Cause) → and_then o (λ es. Ok (field_read no_field (second es))) ≡ Ok x → Bare x Second
      go (Err c) g = never g
      go (Ok es) g = bare refl g

  behind_bare : (es : List (List ℕ)) (t : List ℕ) → path_field es t ≡ Ok x → Bare x Rest
  unfolding path_field
  behind_bare es t g = go (not (has_pair t)) g
    where
      go : (b : Bool) → require b LatePair (and_then (full_path t) (λ p. Ok (field_read (a_pair es p) rest))) ≡ Ok x → Bare x Rest
      go true g = path_bare es rest (full_path t) g
      go false g = never g

  next_is : {e : Entry} {next : Position} → ◌≡◌ {A = Result FieldRead Cause} (Ok (field_read e next)) (Ok x) → position_of x.next ≡ position_of next
  next_is g = sym (ap (λ z. position_of z.next) (same_value g))

  -- behind an option or a condition stands the rest
  other_next : (judge : Judge) (t : List ℕ) → other_of judge t ≡ Ok x → position_of x.next ≡ Rest
  unfolding other_of
  other_next judge t g = go (option_of false t) g
    where
      condition : (o : Result Condition Cause) → and_then o (λ c. Ok (field_read (condition_part c.sort c.alternatives) rest)) ≡ Ok x → position_of x.next ≡ Rest
      condition (Err c) g = never g
      condition (Ok c) g = next_is g

      option : (b : Bool) (e : Entry) → require b LatePair (Ok (field_read e rest)) ≡ Ok x → position_of x.next ≡ Rest
      option true e g = next_is g
      option false e g = never g

      go : (o : Option (Result Setting Cause)) → option_or judge t o ≡ Ok x → position_of x.next ≡ Rest
      go None g = condition (condition_of judge t) g
      go (Some (Err c)) g = never g
      go (Some (Ok k)) g = option (not (has_pair t)) (entry [] [] [] (k ∷ [])) g

-- what a field of this text gives
abbrev pub Gives : Position → List ℕ → FieldKind → FieldRead → Type 0
Gives p t k x = (x.part.settings ≡ cond (is_other k) (settings_in (option_of false t)) []) × (position_of x.next ≡ behind k)

pub field_gives : (judge : Judge) (p : Position) (t : List ℕ) {x : FieldRead} → field_of judge p t ≡ Ok x → Gives p t (kind_by (position_of p) (find_pair 58 58 0 t)) x
unfolding field_of has_pair pair_of
field_gives judge first t {x} g = go (find_pair 58 58 0 t) g
  where
    go : (f : Option ℕ) → cond (found f) (pair_at t f) (command_of t) ≡ Ok x → Gives first t (kind_by First f) x
    go (Some i) g = pair_bare t i g
    go None g = command_bare t g
field_gives judge (second es) t g = behind_bare es t g
field_gives judge pairs t {x} g = go (find_pair 58 58 0 t) g
  where
    go : (f : Option ℕ) → cond (found f) (pair_at t f) (other_of judge t) ≡ Ok x → Gives pairs t (kind_by Pairs f) x
    go (Some i) g = pair_bare t i g
    go None g = (other_settings judge t g, other_next judge t g)
field_gives judge rest t g = (other_settings judge t g, other_next judge t g)
