-- The search for a refused byte, step by step. Assumes nothing.
use Rattle.std.specs.Prelude.{None, Some}
use Rattle.std.specs.List.{list_all, fold, position, position_from}
use Rattle.std.proofs.lemmas.List.Folds.{fold_stays}
use Rattle.std.proofs.lemmas.Iterator.Adapters.{position_from-zero}
use mathlib.Core.Path.{◌≡◌, refl, sym, ◌∙◌}
use mathlib.Core.Bool.{Bool, true, false, not, cond, ◌&&◌, ◌||◌}
use mathlib.Core.List.{List, [], ◌∷◌}
use Prim.Native.Nat.{ℕ, zero, suc, ◌+◌, ◌<◌}
use lib.ListN.{take}
use Rattle.text.specs.Bytes.{is}
use Rattle.text.specs.Class.{class_of, blank, letter, digit, printable}
use Rattle.text.proofs.Laws.{clash, both_true, every_byte}
use Rattle.line.specs.Refused.{accepted, refused_from, refused_byte}

-- the class Refused is what 12 says: "byte other than tab, newline, 0x20 to 0x7E"
pub accepted_is : (b : ℕ) → b < 256 → accepted b ≡ printable b || (is "\n" b || is "\t" b)
unfolding accepted class_of blank letter digit printable
accepted_is = every_byte accepted (λ b. printable b || (is "\n" b || is "\t" b)) refl

-- a fold that looks at every element
pub fold_all : {A : Type 0} (f : A → Bool) (xs : List A) → fold (λ good x. good && f x) true xs ≡ list_all f xs
fold_all f [] = refl
fold_all f (x ∷ xs) = by (f x) (fold_all f xs)
  where
    by : (t : Bool) → fold (λ good y. good && f y) true xs ≡ list_all f xs → fold (λ good y. good && f y) t xs ≡ t && list_all f xs
    by true e = e
    by false e = fold_stays (λ good y. good && f y) false (λ y. refl) xs

-- the first refused byte is the first that is not accepted
refused_from_is : (at : ℕ) (t : List ℕ) → refused_from at t ≡ position_from (λ b. not (accepted b)) at t
unfolding refused_from
refused_from_is at [] = refl
refused_from_is at (b ∷ t) = by (accepted b) (refused_from_is (at + 1) t)
  where
    by : (x : Bool) → refused_from (at + 1) t ≡ position_from (λ c. not (accepted c)) (at + 1) t → cond x (refused_from (at + 1) t) (Some at) ≡ cond (not x) (Some at) (position_from (λ c. not (accepted c)) (at + 1) t)
    by true e = e
    by false e = refl

pub refused_is : (t : List ℕ) → refused_byte t ≡ position (λ b. not (accepted b)) t
unfolding refused_byte
refused_is t = refused_from_is 0 t ∙ sym (position_from-zero (λ b. not (accepted b)) t)

-- where all are accepted there is none to find
accepted_from : (at : ℕ) (t : List ℕ) → list_all accepted t ≡ true → refused_from at t ≡ None
unfolding refused_from
accepted_from at [] h = refl
accepted_from at (b ∷ t) h = let d = both_true (accepted b) (list_all accepted t) h in rw (d.0, accepted_from (at + 1) t d.1)

pub accepted_all : (t : List ℕ) → list_all accepted t ≡ true → None ≡ refused_byte t
unfolding refused_byte
accepted_all t h = sym (accepted_from 0 t h)

-- a table without such a byte has none when it is cut
refused_cut : (n at : ℕ) (t : List ℕ) → refused_from at t ≡ None → refused_from at (take n t) ≡ None
unfolding refused_from
refused_cut zero at t e = refl
refused_cut (suc n) at [] e = refl
refused_cut (suc n) at (b ∷ t) e = by (accepted b) (λ f. refused_cut n (at + 1) t f) e
  where
    by : (x : Bool) → (refused_from (at + 1) t ≡ None → refused_from (at + 1) (take n t) ≡ None) → cond x (refused_from (at + 1) t) (Some at) ≡ None → cond x (refused_from (at + 1) (take n t)) (Some at) ≡ None
    by true rec f = rec f
    by false rec f = clash cc

pub clean_cut : (n : ℕ) (t : List ℕ) → refused_byte t ≡ None → refused_byte (take n t) ≡ None
unfolding refused_byte
clean_cut n t e = refused_cut n 0 t e
