-- The laws of readings. Assumes nothing.
use Rattle.std.specs.Prelude.{Err, None, Ok, Option, Result, Some}
use mathlib.Core.Path.{◌≡◌, refl}
use mathlib.Core.Bool.{Bool, true, false}
use mathlib.Core.List.{List, [], ◌∷◌}
use Prim.Native.Nat.{ℕ}
use native.Mathlib.Omega.{arith}
use Rattle.fault.specs.declared.Cause.{Cause}
use Rattle.fault.specs.declared.Cause.TheVariants.{MissingPart}
use Rattle.fault.specs.Fault.{and_then, needed, read_all, with_first, require}

-- ---- a reading that gives a value met no fault on its way
pub never : {F A X : Type 0} {c : F} {x : A} → ◌≡◌ {A = Result A F} (Err c) (Ok x) → X
never e = let z : ◌≡◌ {A = ℕ} 0 1 = cc in absurd (omega arith)

pub same_value : {F A : Type 0} {x y : A} → ◌≡◌ {A = Result A F} (Ok x) (Ok y) → x ≡ y
same_value e = cc

pub and_then_law : {F A B : Type 0} (r : Result A F) (f : A → Result B F) (x : B) → and_then r f ≡ Ok x → (a : A) × (r ≡ Ok a) × (f a ≡ Ok x)
and_then_law (Err c) f x e = never e
and_then_law (Ok a) f x e = (a, refl, e)

pub required : {F A : Type 0} (t : Bool) (c : F) (r : Result A F) (x : A) → require t c r ≡ Ok x → (t ≡ true) × (r ≡ Ok x)
required true c r x e = (refl, e)
required false c r x e = never e

pub was_needed : {F A B : Type 0} (c : F) (o : Option A) (f : A → Result B F) (x : B) → needed c o f ≡ Ok x → (a : A) × (o ≡ Some a) × (f a ≡ Ok x)
was_needed c None f x e = never e
was_needed c (Some a) f x e = (a, refl, e)

-- ---- a reading by what its first part gives
module _ {F A B : Type 0} {o : Result A F} (f : A → Result B F) where
  pub then_fault : {c : F} → Err c ≡ o → Err c ≡ and_then o f
  then_fault e = rw (← e)

  pub then_value : {a : A} {r : Result B F} → Ok a ≡ o → r ≡ f a → r ≡ and_then o f
  then_value e g = rw (← e) g

-- the fields of a line, by its first field
module _ {A B : Type 0} (r : List ℕ → Result A Cause) (k : A → List (List ℕ) → Result B Cause) {fs : List (List ℕ)} where
  pub first_missing : fs ≡ [] → Err MissingPart ≡ with_first r fs k
  first_missing e = rw e

  module _ {f : List ℕ} {rest : List (List ℕ)} (e : fs ≡ f ∷ rest) where
    pub first_fault : {c : Cause} → Err c ≡ r f → Err c ≡ with_first r fs k
    first_fault g = rw (e, ← g)

    pub first_value : {a : A} {o : Result B Cause} → Ok a ≡ r f → o ≡ k a rest → o ≡ with_first r fs k
    first_value g h = rw (e, ← g) h

-- ---- what holds of every value that a reading can give
abbrev pub Gives : {F A : Type 0} → (A → Type 0) → Result A F → Type 0
Gives {F} {A} P r = (a : A) → r ≡ Ok a → P a

pub gives_fault : {F A : Type 0} (P : A → Type 0) (c : F) → Gives P (Err c)
gives_fault P c a e = never e

pub gives_value : {F A : Type 0} (P : A → Type 0) {a : A} → P a → Gives {F = F} P (Ok a)
gives_value P p a e = rw (← same_value e) p

pub gives_then : {F A B : Type 0} (P : A → Type 0) (Q : B → Type 0) (r : Result A F) {f : A → Result B F} → Gives P r → ((a : A) → P a → Gives Q (f a)) → Gives Q (and_then r f)
gives_then P Q r {f} g h b e = let u = and_then_law r f b e in h u.0 (g u.0 u.1) b u.2

pub gives_after : {F A B : Type 0} (Q : B → Type 0) (r : Result A F) {f : A → Result B F} → ((a : A) → Gives Q (f a)) → Gives Q (and_then r f)
gives_after Q r {f} h b e = let u = and_then_law r f b e in h u.0 b u.2

pub gives_needed : {F A B : Type 0} (Q : B → Type 0) (c : F) (o : Option A) {f : A → Result B F} → ((a : A) → Gives Q (f a)) → Gives Q (needed c o f)
gives_needed Q c o {f} h b e = let u = was_needed c o f b e in h u.0 b u.2

pub gives_require : {F A : Type 0} (P : A → Type 0) (t : Bool) (c : F) {r : Result A F} → (t ≡ true → Gives P r) → Gives P (require t c r)
gives_require P t c {r} h a e = let u = required t c r a e in h u.0 a u.1

-- it holds of each
abbrev pub Each : {A : Type 0} → (A → Type 0) → List A → Type 0
Each P [] = Unit {0}
Each P (x ∷ xs) = P x × Each P xs

pub gives_all : {F A B : Type 0} (P : B → Type 0) (f : A → Result B F) → ((x : A) → Gives P (f x)) → (xs : List A) → Gives (Each P) (read_all f xs)
unfolding read_all
gives_all P f h [] = gives_value (Each P) tt
gives_all P f h (x ∷ xs) = gives_then P (Each P) (f x) (h x) (λ y p. gives_then (Each P) (Each P) (read_all f xs) (gives_all P f h xs) (λ ys q. gives_value (Each P) (p, q)))
