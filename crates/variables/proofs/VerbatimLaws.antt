-- A field with no quote and no `$` is its own text in every scope. Assumes nothing.
use Rattle.std.specs.Prelude.{Ok}
use Rattle.std.specs.List.{list_all, fold}
use Rattle.std.proofs.lemmas.List.Folds.{fold_stays}
use mathlib.Core.Path.{◌≡◌, refl}
use mathlib.Core.Bool.{Bool, true, false, not, cond, ◌&&◌}
use mathlib.Core.List.{List, [], ◌∷◌}
use Prim.Native.Nat.{ℕ}
use lib.Dec.{eqb}
use Rattle.text.specs.Quote.{quoting_after}
use Rattle.text.specs.declared.quote.Quoting.TheVariants.{Outside, Single, Double}
use Rattle.text.proofs.Laws.{both_true, clash}
use Rattle.variables.specs.Scope.{Scope}
use Rattle.variables.specs.Substitute.{stays, refers, substituted, limited, field_text}
use Rattle.variables.specs.Contract.{literal, verbatim}

-- a fold that looks at every element
pub fold_all : {A : Type 0} (f : A → Bool) (xs : List A) → fold (λ good x. good && f x) true xs ≡ list_all f xs
fold_all f [] = refl
fold_all f (x ∷ xs) = by (f x) (fold_all f xs)
  where
    by : (t : Bool) → fold (λ good y. good && f y) true xs ≡ list_all f xs → fold (λ good y. good && f y) t xs ≡ t && list_all f xs
    by true e = e
    by false e = fold_stays (λ good y. good && f y) false (λ y. refl) xs

-- what a byte that stands for itself does: it stays, refers to nothing, and leaves the quoting
literal_told : (b : ℕ) → literal b ≡ true → (stays Outside b ≡ true) × (refers Outside b ≡ false) × (quoting_after Outside b ≡ Outside)
unfolding literal stays refers quoting_after
literal_told b t = go (eqb b 39) (eqb b 34) (eqb b 36) t
  where
    go : (x y z : Bool) → not x && not y && not z ≡ true → ((not x && not y) ≡ true) × (z ≡ false) × (cond x Single (cond y Double Outside) ≡ Outside)
    go false false false e = (refl, refl, refl)
    go false false true e = clash cc
    go false true z e = clash cc
    go true y z e = clash cc

verbatim_substituted : (s : Scope) (f : List ℕ) → list_all literal f ≡ true → substituted s Outside 0 f ≡ Ok f
unfolding substituted
verbatim_substituted s [] h = refl
verbatim_substituted s (b ∷ r) h =
    let d = both_true (literal b) (list_all literal r) h in
    let l = literal_told b d.0 in
    rw (l.1, l.0, l.2, verbatim_substituted s r d.1)

-- the text of such a field in every scope: itself, if it is not too long
pub verbatim_text : (s : Scope) (f : List ℕ) → verbatim f ≡ true → field_text s f ≡ limited f
unfolding verbatim field_text
verbatim_text s f h = rw (verbatim_substituted s f h)
