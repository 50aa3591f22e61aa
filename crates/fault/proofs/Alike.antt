-- Readings that agree in each of their parts. Assumes nothing.
use Rattle.std.specs.Prelude.{Err, Ok, Result}
use mathlib.Core.Path.{◌≡◌, refl}
use mathlib.Core.List.{List, [], ◌∷◌}
use Prim.Native.Nat.{ℕ, zero, suc}
use lib.ListN.{drop}
use Rattle.fault.specs.declared.Cause.{Cause}
use Rattle.fault.specs.Fault.{and_then, read_all, with_first}
use Rattle.fault.proofs.Readings.{Each}

-- the same first reading, and the same next one for each of its values
pub then_alike : {F A B : Type 0} {r : Result A F} (s : Result A F) {f g : A → Result B F} → r ≡ s → ((a : A) → f a ≡ g a) → and_then r f ≡ and_then s g
then_alike (Err c) e h = rw e
then_alike (Ok a) e h = rw e (h a)

-- the same of each element for which P holds, in a list in which it holds of all
pub all_alike : {F A B : Type 0} {P : A → Type 0} {f g : A → Result B F} → ((x : A) → P x → f x ≡ g x) → (xs : List A) → Each P xs → read_all f xs ≡ read_all g xs
unfolding read_all
all_alike e [] h = refl
all_alike e (x ∷ xs) h = rw (e x h.0, all_alike e xs h.1)

-- the same of the first field, and of those behind it
pub first_alike : {A B : Type 0} {P : List ℕ → Type 0} {r s : List ℕ → Result A Cause} {k l : A → List (List ℕ) → Result B Cause} → ((f : List ℕ) → P f → r f ≡ s f) → ((a : A) (fs : List (List ℕ)) → Each P fs → k a fs ≡ l a fs) → (fs : List (List ℕ)) → Each P fs → with_first r fs k ≡ with_first s fs l
first_alike e g [] h = refl
first_alike {s = s} e g (f ∷ fs) h = then_alike (s f) (e f h.0) (λ a. g a fs h.1)

-- what holds of each element holds of each behind the first n
pub each_drop : {A : Type 0} (P : A → Type 0) (n : ℕ) (xs : List A) → Each P xs → Each P (drop n xs)
each_drop P zero xs h = h
each_drop P (suc n) [] h = h
each_drop P (suc n) (x ∷ xs) h = each_drop P n xs h.1
