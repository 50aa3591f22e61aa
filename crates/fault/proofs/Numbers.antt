-- The number of every cause is one of a refusal. Assumes nothing.
use mathlib.Core.Path.{◌≡◌, refl, sym, ap, ◌∙◌}
use mathlib.Core.Bool.{Bool, true, false, ◌&&◌}
use mathlib.Core.List.{List, [], ◌∷◌}
use mathlib.Core.Logic.{inl, inr}
use Prim.Native.Nat.{◌≤◌}
use native.Mathlib.Omega.{arith}
use borrow.Author.Tests.{lt-leb, leb-true}
use denote.Enum.Declared.{Choice}
use denote.Struct.Field.{Field}
use lib.Dec.{leb}
use Rattle.fault.specs.declared.Cause.{Cause}
use Rattle.fault.specs.Fault.{number_of}
use Rattle.fault.specs.contracts.Cause.{the_parts as parts, as_values, the_make as make, the_eta as eta}

-- a test of every variant, where none holds a value
abbrev passes : (Fss : List (List Field)) → (Choice Fss → Bool) → Bool
passes [] t = true
passes ([] ∷ Fss) t = t (inl tt) && passes Fss (λ v. t (inr v))
passes ((F ∷ Fs) ∷ Fss) t = false

both : (a b : Bool) → a && b ≡ true → (a ≡ true) × (b ≡ true)
both true b e = (refl, e)
both false b e = (e, cc)

passed : (Fss : List (List Field)) (t : Choice Fss → Bool) → passes Fss t ≡ true → (v : Choice Fss) → t v ≡ true
passed [] t e v = absurd v
passed ([] ∷ Fss) t e (inl tt) = (both (t (inl tt)) (passes Fss (λ v. t (inr v))) e).0
passed ([] ∷ Fss) t e (inr v) = passed Fss (λ v. t (inr v)) (both (t (inl tt)) (passes Fss (λ v. t (inr v))) e).1 v
passed ((F ∷ Fs) ∷ Fss) t e v = cc

-- the numbers of refusals of a line
refusal : Cause → Bool
refusal c = leb 14 (number_of c) && leb (number_of c) 18

test : passes parts (λ v. refusal (make v)) ≡ true
unfolding refusal number_of
test = refl

pub cause_number : (c : Cause) → (14 ≤ number_of c) × (number_of c ≤ 18)
unfolding refusal
cause_number c =
    let k = both (leb 14 (number_of c)) (leb (number_of c) 18) (ap refusal (sym (eta c)) ∙ passed parts (λ v. refusal (make v)) test (as_values c)) in
    (leb-true 14 (number_of c) k.0, leb-true (number_of c) 18 k.1)

pub above_decisions : (c : Cause) → leb (number_of c) 5 ≡ false
above_decisions c = lt-leb (number_of c) 5 (omega (arith, (cause_number c).0))
