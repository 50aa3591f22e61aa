-- Reading one option: one law for each answer. Assumes nothing.
use Rattle.std.specs.Option.{option_map}
use Rattle.std.specs.Prelude.{Err, None, Ok, Option, Some}
use mathlib.Core.Path.{◌≡◌}
use mathlib.Core.Bool.{Bool, true, false, cond}
use mathlib.Core.List.{List, [], ◌∷◌}
use Prim.Native.Nat.{ℕ, suc, ◌≤◌}
use native.Mathlib.Omega.{arith}
use borrow.Author.Tests.{le-leb}
use lib.Dec.{eqb}
use lib.ListN.{length, take}
use lib.Seq.{take_all}
use Rattle.text.specs.Parts.{Parts, with_first, part_at}
use Rattle.fault.specs.declared.Cause.{Cause}
use Rattle.pattern.specs.declared.Syntax.TheVariants.{Plain}
use Rattle.pattern.specs.Whole.{expansions_of}
use Rattle.matching.specs.declared.field.Expanded.{Expanded}
use Rattle.matching.specs.Contract.{pattern_field}
use Rattle.matching.proofs.FieldLaws.{told_fault, told_good}
use Rattle.options.specs.declared.Id.{Id}
use Rattle.options.specs.declared.span.Span.{Span}
use Rattle.options.specs.Read.{set_id, set_argument, id_limit, last_position, is_id, id_of, number_range, argument_of}
use Rattle.options.specs.Contract.{span_in, back_of, value_in}

pub id_good : (i : Id) (v : List ℕ) → length v ≤ id_limit → is_id v ≡ true → Ok (set_id i (take id_limit v)) ≡ id_of i v
unfolding id_of
id_good i v h e = rw (le-leb (length v) id_limit h, e, take_all id_limit v h)

-- a pattern for positions as written
module _ (v s : List ℕ) (p : Span) (e : Some (span_in p) ≡ number_range 1 last_position s) where
  pub argument_fault : (c : Cause) → Err c ≡ pattern_field Plain v → Some (Err c) ≡ option_map (λ r. argument_of r v) (number_range 1 last_position s)
  unfolding argument_of
  argument_fault c h = rw (← e, told_fault Plain v c h)

  pub argument_good : (x : Expanded) → Ok x ≡ pattern_field Plain v → Some (Ok (set_argument (span_in p) (expansions_of Plain v))) ≡ option_map (λ r. argument_of r v) (number_range 1 last_position s)
  unfolding argument_of
  argument_good x h = rw (← e, told_good Plain v x h)

-- a value is no longer than its text
pub value_length : (t : List ℕ) → length (value_in t) ≤ length t
unfolding value_in part_at
value_length [] = omega arith
value_length (b ∷ s) = go (eqb b 61) (part_at 61 s) (value_length s)
  where
    go : (q : Bool) (o : Option Parts) → length (back_of o) ≤ length s → length (back_of (cond q (Some (record { front = []; back = s })) (option_map (with_first b) o))) ≤ suc (length s)
    go true o h = omega arith
    go false None h = omega arith
    go false (Some p) h = omega arith
