-- The comparison of an `:if`: its operator, what it says of two texts, and that a rest stands behind it.
use Rattle.std.specs.Prelude.{Err, Ok, Result}
use Rattle.std.specs.Str.{bytes_eq}
use mathlib.Core.Path.{◌≡◌}
use mathlib.Core.Bool.{Bool, true, false}
use mathlib.Core.List.{List, [], ◌∷◌}
use Prim.Native.Nat.{ℕ}
use Rattle.text.specs.Bytes.{bytes}
use Rattle.fault.specs.declared.Cause.{Cause}
use Rattle.fault.specs.declared.Cause.TheVariants.{Operator as NoOperator, MissingPart}
use Rattle.reader.specs.declared.conditional.Operator.{Operator}
use Rattle.reader.specs.declared.conditional.Operator.TheVariants.{Equal, NotEqual}
use Rattle.fault.proofs.Readings.{first_missing, first_fault, first_value}
use Rattle.variables.specs.Scope.{Scope}
use Rattle.variables.specs.Substitute.{field_text}
use Rattle.reader.specs.Colon.{operator_of, operator_holds, before_rest, behind_left, comparison}

-- ---- the operator by its text
module _ (t : List ℕ) where
  pub operator_equal : bytes_eq t (bytes "==") ≡ true → Ok Equal ≡ operator_of t
  unfolding operator_of
  operator_equal e = rw e

  module _ (e : bytes_eq t (bytes "==") ≡ false) where
    pub operator_unequal : bytes_eq t (bytes "!=") ≡ true → Ok NotEqual ≡ operator_of t
    unfolding operator_of
    operator_unequal n = rw (e, n)

    pub operator_other : bytes_eq t (bytes "!=") ≡ false → Err NoOperator ≡ operator_of t
    unfolding operator_of
    operator_other n = rw (e, n)

-- ---- the rest behind the comparison
module _ (operator : Operator) (a b : List ℕ) {rest : List (List ℕ)} where
  pub rest_missing : rest ≡ [] → Err MissingPart ≡ before_rest operator a b rest
  rest_missing e = rw e

  pub rest_there : {f : List ℕ} {fs : List (List ℕ)} {o : Result Bool Cause} → rest ≡ f ∷ fs → o ≡ Ok (operator_holds operator a b) → o ≡ before_rest operator a b rest
  rest_there e h = rw e h

-- ---- the whole comparison, by its left side
module _ (sc : Scope) {fs : List (List ℕ)} where
  pub left_missing : fs ≡ [] → Err MissingPart ≡ comparison sc fs
  unfolding comparison
  left_missing e = first_missing (field_text sc) (behind_left sc) e

  module _ {f : List ℕ} {rest : List (List ℕ)} (e : fs ≡ f ∷ rest) where
    pub left_fault : {c : Cause} → Err c ≡ field_text sc f → Err c ≡ comparison sc fs
    unfolding comparison
    left_fault g = first_fault (field_text sc) (behind_left sc) e g

    pub left_there : {a : List ℕ} {o : Result Bool Cause} → Ok a ≡ field_text sc f → o ≡ behind_left sc a rest → o ≡ comparison sc fs
    unfolding comparison
    left_there g h = first_value (field_text sc) (behind_left sc) e g h
