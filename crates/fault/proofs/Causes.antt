-- Tables with an entry for each cause, in their order. Assumes nothing.
use mathlib.Core.Path.{◌≡◌, refl, sym, ap, ◌∙◌}
use mathlib.Core.List.{List, [], ◌∷◌, map}
use Prim.Native.Nat.{ℕ, zero, suc, ◌+◌, ◌<◌}
use native.Mathlib.Omega.{arith}
use lib.ListN.{length, get_or}
use Rattle.fault.specs.declared.Cause.{Cause}
use Rattle.fault.specs.declared.Cause.TheVariants.{LineLength}
use Rattle.fault.specs.Contract.{causes, IndexOf}

map_at : {A B : Type 0} (f : A → B) (l : List A) (i : ℕ) (a : A) (b : B) → i < length l → get_or (map f l) i b ≡ f (get_or l i a)
map_at f [] i a b h = absurd (omega arith)
map_at f (x ∷ l) zero a b h = refl
map_at f (x ∷ l) (suc i) a b h = map_at f l i a b (omega arith)

-- the table of f, computed from all causes, has f of a cause at its index
table_at : {A : Type 0} (f : Cause → A) (d : A) (c : Cause) (i : ℕ) → IndexOf c i → get_or (map f causes) i d ≡ f c
table_at f d c i h = map_at f causes i LineLength d h.0 ∙ ap f h.1

-- f of the index of each element, the first being n
abbrev pub by_index : {A B : Type 0} → (ℕ → B) → ℕ → List A → List B
by_index f n [] = []
by_index f n (x ∷ l) = f n ∷ by_index f (n + 1) l

index_at : {A B : Type 0} (f : ℕ → B) (l : List A) (n i : ℕ) (b : B) → i < length l → get_or (by_index f n l) i b ≡ f (n + i)
index_at f [] n i b h = absurd (omega arith)
index_at f (x ∷ l) n zero b h = let z : n + 0 ≡ n = omega arith in rw z
index_at f (x ∷ l) n (suc i) b h = let z : n + 1 + i ≡ n + suc i = omega arith in rw (← z) (index_at f l (n + 1) i b (omega arith))

-- what a computed test of all indices says of one
pub agree_at : {A : Type 0} (f : ℕ → A) (g : Cause → A) → by_index f 0 causes ≡ map g causes → (c : Cause) (i : ℕ) → IndexOf c i → f i ≡ g c
agree_at f g e c i h = let z : 0 + i ≡ i = omega arith in rw z at (sym (index_at f causes 0 i (g c) h.0)) ∙ ap (λ l. get_or l i (g c)) e ∙ table_at g (g c) c i h
