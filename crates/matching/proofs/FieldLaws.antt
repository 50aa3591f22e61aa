-- The laws of reading the pattern of a field. Assumes nothing.
use Rattle.std.specs.Prelude.{Err, Ok, Result, None, Some}
use mathlib.Core.Path.{◌≡◌, refl, sym, ap, ◌∙◌}
use mathlib.Core.Bool.{Bool, true, false, ◌&&◌}
use mathlib.Core.List.{List, [], ◌∷◌}
use Prim.Native.Nat.{ℕ}
use lib.Dec.{leb}
use lib.ListN.{length}
use Rattle.text.proofs.Laws.{clash}
use Rattle.fault.specs.Fault.{and_then}
use Rattle.fault.specs.declared.Cause.{Cause}
use Rattle.fault.specs.declared.Cause.TheVariants.{Pattern as BadPattern, PatternSize}
use Rattle.pattern.specs.declared.Syntax.{Syntax}
use Rattle.pattern.specs.declared.Pattern.{Pattern}
use Rattle.pattern.specs.Tree.{expanded}
use Rattle.pattern.specs.Whole.{or_none, expansions_of}
use Rattle.pattern.specs.Contract.{shape_of, is_flat}
use Rattle.pattern.proofs.WholeLaws.{shape_malformed, shape_large, shape_good, expansions_are}
use Rattle.pattern.proofs.FlatLaws.{flat_alone}
use Rattle.matching.specs.declared.field.Expanded.{Expanded}
use Rattle.matching.specs.declared.field.Expanded.TheVariants.{Flat, Number}
use Rattle.matching.specs.Contract.{expanded_as, pattern_field}

module _ (syntax : Syntax) (p : List ℕ) where
  -- ---- the answer of `read_pattern_field`
  pub field_flat : is_flat syntax p ≡ true → Ok Flat ≡ pattern_field syntax p
  unfolding pattern_field
  field_flat e = rw (flat_alone syntax p e, e)

  pub field_malformed : shape_of syntax p ≡ None → Err BadPattern ≡ pattern_field syntax p
  unfolding pattern_field
  field_malformed e = rw (shape_malformed syntax p e)

  module _ (size : Pattern) (e : shape_of syntax p ≡ Some size) where
    pub field_large : leb size.depth 4 && leb size.number 64 ≡ false → Err PatternSize ≡ pattern_field syntax p
    unfolding pattern_field
    field_large f = rw (shape_large syntax p size e f)

    pub field_good : is_flat syntax p ≡ false → leb size.depth 4 && leb size.number 64 ≡ true → Ok (Number size.number) ≡ pattern_field syntax p
    unfolding pattern_field
    field_good b f = let w = shape_good syntax p size e f in rw (w.1, b) (ap (λ n. Ok (Number n)) w.2)

  -- ---- what it tells a caller
  pub told_fault : (c : Cause) → Err c ≡ pattern_field syntax p → expanded syntax p ≡ Err c
  unfolding pattern_field
  told_fault c e = go (is_flat syntax p) (expanded syntax p) e
    where
      go : (b : Bool) (r : Result (List (List ℕ)) Cause) → Err c ≡ and_then r (λ es. Ok (expanded_as b es)) → r ≡ Err c
      go b (Err d) e = cc
      go b (Ok es) e = clash cc

  pub told_flat : Ok Flat ≡ pattern_field syntax p → expanded syntax p ≡ Ok (p ∷ [])
  unfolding pattern_field
  told_flat e = go (is_flat syntax p) refl (expanded syntax p) e
    where
      go : (b : Bool) → is_flat syntax p ≡ b → (r : Result (List (List ℕ)) Cause) → Ok Flat ≡ and_then r (λ es. Ok (expanded_as b es)) → expanded syntax p ≡ Ok (p ∷ [])
      go true q r e = flat_alone syntax p q
      go false q (Err d) e = clash cc
      go false q (Ok es) e = clash cc

  pub told_number : (n : ℕ) → Ok (Number n) ≡ pattern_field syntax p → (es : List (List ℕ)) × (expanded syntax p ≡ Ok es) × (n ≡ length es)
  unfolding pattern_field
  told_number n e = go (is_flat syntax p) (expanded syntax p) refl e
    where
      go : (b : Bool) (r : Result (List (List ℕ)) Cause) → expanded syntax p ≡ r → Ok (Number n) ≡ and_then r (λ es. Ok (expanded_as b es)) → (es : List (List ℕ)) × (expanded syntax p ≡ Ok es) × (n ≡ length es)
      go b (Err d) q e = clash cc
      go true (Ok es) q e = clash cc
      go false (Ok es) q e = (es, q, cc)

  pub told_count : (n : ℕ) → Ok (Number n) ≡ pattern_field syntax p → n ≡ length (expansions_of syntax p)
  told_count n e = let w = told_number n e in w.2 ∙ ap length (sym (expansions_are syntax p w.0 w.1))

  pub told_good : (x : Expanded) → Ok x ≡ pattern_field syntax p → expanded syntax p ≡ Ok (expansions_of syntax p)
  unfolding pattern_field expansions_of
  told_good x e = go (is_flat syntax p) (expanded syntax p) e
    where
      go : (b : Bool) (r : Result (List (List ℕ)) Cause) → Ok x ≡ and_then r (λ es. Ok (expanded_as b es)) → r ≡ Ok (or_none r)
      go b (Err d) e = clash cc
      go b (Ok es) e = refl
