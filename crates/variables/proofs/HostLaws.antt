-- The text of a field in which the bytes HOST stand nowhere is the same whatever the host is. Assumes nothing.
use Rattle.std.specs.Prelude.{None, Ok, Option, Result, Some}
use Rattle.std.specs.Str.{bytes_eq}
use mathlib.Core.Path.{◌≡◌, refl, sym, ap, ◌∙◌}
use mathlib.Core.Bool.{Bool, true, false, cond, ◌&&◌}
use mathlib.Core.List.{List, [], ◌∷◌, ◌++◌}
use Prim.Native.Nat.{ℕ, zero, suc}
use lib.Dec.{eqb}
use lib.ListN.{drop}
use Rattle.text.specs.Bytes.{bytes}
use Rattle.text.specs.Class.{word_byte}
use Rattle.text.specs.Quote.{quoting_after}
use Rattle.text.specs.Slice.{starts_with, contains}
use Rattle.text.specs.declared.quote.Quoting.{Quoting}
use Rattle.text.specs.declared.quote.Quoting.TheVariants.{Outside}
use Rattle.text.proofs.Contains.{contains_start, contains_rest}
use Rattle.text.proofs.Laws.{both_true, both_of, false_of, untrue}
use Rattle.fault.specs.Fault.{and_then, needed}
use Rattle.fault.specs.declared.Cause.{Cause}
use Rattle.fault.specs.declared.Cause.TheVariants.{Variable}
use Rattle.variables.specs.Scope.{Definition, Scope, lookup, name_text}
use Rattle.variables.specs.Substitute.{Substitution, refers, word, bracketed, reference, substitute, substituted, limited, field_text}

-- bytes whose word is p begin with p
word_starts : (p r : List ℕ) → bytes_eq p (word r) ≡ true → starts_with p r ≡ true
unfolding word
word_starts [] r e = refl
word_starts (y ∷ p) [] e = e
word_starts (y ∷ p) (x ∷ r) e = go (word_byte x) (word_starts p r) e
  where
    go : (t : Bool) → (bytes_eq p (word r) ≡ true → starts_with p r ≡ true) → bytes_eq (y ∷ p) (cond t (x ∷ word r) []) ≡ true → eqb y x && starts_with p r ≡ true
    go true f g = let d = both_true (eqb y x) (bytes_eq p (word r)) g in both_of d.0 (f d.1)
    go false f g = untrue g

module _ (caller h k : List ℕ) (ds : List Definition) where
  -- the scope of the question from a host
  abbrev scope_from : List ℕ → Scope
  scope_from host = record { caller = caller; host = host; definitions = ds }

  name_alike : (n : List ℕ) → bytes_eq (bytes "HOST") n ≡ false → name_text (scope_from h) n ≡ name_text (scope_from k) n
  unfolding name_text lookup
  name_alike n e = rw e

  word_alike : (r : List ℕ) → contains (bytes "HOST") r ≡ false → name_text (scope_from h) (word r) ≡ name_text (scope_from k) (word r)
  word_alike r e = name_alike (word r) (false_of (bytes_eq (bytes "HOST") (word r)) (λ t. untrue (sym (contains_start (bytes "HOST") r e) ∙ word_starts (bytes "HOST") r t)))

  reference_alike : (r : List ℕ) → contains (bytes "HOST") r ≡ false → reference (scope_from h) r ≡ reference (scope_from k) r
  unfolding reference bracketed
  reference_alike r e = rw (word_alike r e, word_alike (drop 1 r) (contains_rest (bytes "HOST") r e))

  substitute_alike : (t : Bool) (q : Quoting) (b : ℕ) (r : List ℕ) → contains (bytes "HOST") r ≡ false → substitute t (scope_from h) q b r ≡ substitute t (scope_from k) q b r
  substitute_alike true q b r e = reference_alike r e
  substitute_alike false q b r e = refl

  substituted_alike : (q : Quoting) (n : ℕ) (f : List ℕ) → contains (bytes "HOST") f ≡ false → substituted (scope_from h) q n f ≡ substituted (scope_from k) q n f
  unfolding substituted
  substituted_alike q n [] e = refl
  substituted_alike q (suc n) (b ∷ r) e = substituted_alike q n r (contains_rest (bytes "HOST") (b ∷ r) e)
  substituted_alike q zero (b ∷ r) e =
      let c = contains_rest (bytes "HOST") (b ∷ r) e in
      rw (substitute_alike (refers q b) q b r c) (go (substitute (refers q b) (scope_from k) q b r) (λ n. substituted_alike (quoting_after q b) n r c))
    where
      go : (o : Option Substitution) → ((n : ℕ) → substituted (scope_from h) (quoting_after q b) n r ≡ substituted (scope_from k) (quoting_after q b) n r) →
          needed Variable o (λ x. and_then (substituted (scope_from h) (quoting_after q b) x.taken r) (λ t. Ok (x.text ++ t)))
          ≡ needed Variable o (λ x. and_then (substituted (scope_from k) (quoting_after q b) x.taken r) (λ t. Ok (x.text ++ t)))
      go None i = refl
      go (Some x) i = rw (i x.taken)

  pub text_alike : (f : List ℕ) → contains (bytes "HOST") f ≡ false → field_text (scope_from h) f ≡ field_text (scope_from k) f
  unfolding field_text
  text_alike f e = ap (λ (r : Result (List ℕ) Cause). and_then r limited) (substituted_alike Outside 0 f e)
