-- The text of a field byte by byte, and the word that a reference has. Assumes nothing.
use Rattle.std.specs.List.{position, position_or_len}
use Rattle.std.specs.Option.{unwrap_or}
use Rattle.std.specs.Prelude.{Err, None, Ok, Option, Result, Some}
use Rattle.std.proofs.lemmas.List.Recursion.{is_position_or_len}
use Rattle.std.proofs.lemmas.List.Sums.{prefix_len-le-length}
use mathlib.Core.Path.{◌≡◌, refl, ap, ◌∙◌}
use mathlib.Core.Bool.{Bool, true, false, not, cond}
use mathlib.Core.List.{List, [], ◌∷◌, ◌++◌}
use Prim.Native.Nat.{ℕ, zero, suc, ◌+◌, ◌≤◌, ◌<◌}
use native.Mathlib.Omega.{arith}
use native.Mathlib.Decide.{dec_le}
use borrow.Author.Tests.{eqb-true, le-ltb, lt-ltb}
use lib.Dec.{ltb}
use lib.ListN.{length, take, drop, get_or, drop_of_length-le}
use Rattle.text.specs.Class.{word_byte}
use Rattle.text.specs.Quote.{quoting_after}
use Rattle.text.specs.declared.quote.Quoting.{Quoting}
use Rattle.text.specs.declared.quote.Quoting.TheVariants.{Outside, Single, Double}
use Rattle.text.proofs.Laws.{next}
use Rattle.fault.proofs.Readings.{same_value, and_then_law, was_needed}
use Rattle.fault.specs.Fault.{and_then}
use Rattle.fault.specs.declared.Cause.{Cause}
use Rattle.fault.specs.declared.Cause.TheVariants.{Variable}
use Rattle.variables.specs.Scope.{Scope}
use Rattle.variables.specs.Substitute.{Substitution, stays, refers, word, reference, substitute, substituted}
use Rattle.variables.specs.Contract.{up_to_bad}

-- the word that the bytes begin with ends where the first stands that is no byte of a word, or with them
module _ (s : List ℕ) where
  word_before : length (word s) ≡ position_or_len (λ b. not (word_byte b)) s
  unfolding word
  word_before = is_position_or_len (λ r. length (word r)) (λ b. not (word_byte b)) refl (λ b r. by (word_byte b) b (word r)) s
    where
      by : (t : Bool) (b : ℕ) (w : List ℕ) → length (cond t (b ∷ w) []) ≡ cond (not t) 0 (1 + length w)
      by true b w = omega arith
      by false b w = refl

  word_within : length (word s) ≤ length s
  word_within = rw word_before (prefix_len-le-length _ s)

  word_position : unwrap_or (position (λ b. not (word_byte b)) s) (length s) ≡ length (word s)
  word_position = rw word_before (by (position_or_len (λ b. not (word_byte b)) s) (prefix_len-le-length _ s))
    where
      by : (p : ℕ) → p ≤ length s → unwrap_or (cond (ltb p (length s)) (Some p) None) (length s) ≡ p
      by p h = elim (dec_le (length s) p) [ yes k ↦ rw (le-ltb p (length s) k) (omega arith) | no k ↦ rw (lt-ltb p (length s) (omega arith)) ]

  pub word_ends : {r : Option ℕ} {n : ℕ} → r ≡ position (λ b. not (word_byte b)) s → n ≡ unwrap_or r (length s) → (n ≡ length (word s)) × (n ≤ length s)
  word_ends {r} {n} e g = let z : n ≡ length (word s) = g ∙ rw e word_position in (z, omega (arith, word_within))

-- it is a beginning
pub word_take : (s : List ℕ) → take (length (word s)) s ≡ word s
unfolding word
word_take [] = refl
word_take (b ∷ s) = go (word_byte b) (word_take s)
  where
    go : (t : Bool) → take (length (word s)) s ≡ word s → take (length (cond t (b ∷ word s) [])) (b ∷ s) ≡ cond t (b ∷ word s) []
    go true e = ap (λ (l : List ℕ). b ∷ l) e
    go false e = refl

-- `$` leaves the quoting as it is
refers_keeps : (q : Quoting) (b : ℕ) → refers q b ≡ true → quoting_after q b ≡ q
unfolding refers quoting_after
refers_keeps Outside b t = rw (eqb-true b 36 t)
refers_keeps Single b t = cc
refers_keeps Double b t = rw (eqb-true b 36 t)

-- bytes in front of a text
abbrev pub behind : List ℕ → Result (List ℕ) Cause → Result (List ℕ) Cause
behind xs r = and_then r (λ t. Ok (xs ++ t))

-- the text of bytes, and what there is of it up to a bad `$`
pub record Substituted (s : Scope) (q : Quoting) (n : ℕ) (f : List ℕ) (t : Result (List ℕ) Cause) (xs : List ℕ) : Type 0 where
  pub whole : substituted s q n f ≡ t
  pub part : up_to_bad s q n f ≡ xs

-- past the bytes that a reference took
pub text_skip : (s : Scope) (q : Quoting) (n : ℕ) (r : List ℕ) → Substituted s q n r (substituted s q 0 (drop n r)) (up_to_bad s q 0 (drop n r))
unfolding substituted up_to_bad
text_skip s q zero r = record { whole = refl; part = refl }
text_skip s q (suc n) [] = record { whole = refl; part = refl }
text_skip s q (suc n) (b ∷ r) = let w = text_skip s q n r in record { whole = w.whole; part = w.part }

module _ (s : Scope) (q : Quoting) (f : List ℕ) (i : ℕ) where
  -- a byte that is no reference
  pub text_plain : i < length f → refers q (get_or f i 0) ≡ false →
      Substituted s q 0 (drop i f)
      (behind (cond (stays q (get_or f i 0)) (get_or f i 0 ∷ []) []) (substituted s (quoting_after q (get_or f i 0)) 0 (drop (i + 1) f)))
      (cond (stays q (get_or f i 0)) (get_or f i 0 ∷ []) [] ++ up_to_bad s (quoting_after q (get_or f i 0)) 0 (drop (i + 1) f))
  unfolding substituted up_to_bad
  text_plain h t = record { whole = rw (next f i, t); part = rw (next f i, t) }

  module _ (h : i < length f) (t : refers q (get_or f i 0) ≡ true) where
    -- a bad reference
    pub text_bad : reference s (drop (i + 1) f) ≡ None → Substituted s q 0 (drop i f) (Err Variable) []
    unfolding substituted up_to_bad
    text_bad e = record { whole = rw (next f i, t, e); part = rw (next f i, t, e) }

    -- a good one
    pub text_known : (x : Substitution) → reference s (drop (i + 1) f) ≡ Some x →
        Substituted s q 0 (drop i f) (behind x.text (substituted s q x.taken (drop (i + 1) f))) (x.text ++ up_to_bad s q x.taken (drop (i + 1) f))
    unfolding substituted up_to_bad
    text_known x e = let k = refers_keeps q (get_or f i 0) t in record { whole = rw (next f i, t, e, k); part = rw (next f i, t, e, k) }

  pub text_end : length f ≤ i → Substituted s q 0 (drop i f) (Ok []) []
  unfolding substituted up_to_bad
  text_end h = record { whole = rw (drop_of_length-le f); part = rw (drop_of_length-le f) }

-- where nothing is bad, the text up to a bad `$` is all of it
pub text_whole : (s : Scope) (q : Quoting) (n : ℕ) (f t : List ℕ) → substituted s q n f ≡ Ok t → up_to_bad s q n f ≡ t
unfolding substituted up_to_bad
text_whole s q n [] t e = same_value e
text_whole s q (suc n) (b ∷ r) t e = text_whole s q n r t e
text_whole s q zero (b ∷ r) t e =
    let d = was_needed Variable (substitute (refers q b) s q b r) _ t e in
    let g = and_then_law (substituted s (quoting_after q b) d.0.taken r) _ t d.2 in
    rw d.1 (ap (λ (v : List ℕ). d.0.text ++ v) (text_whole s (quoting_after q b) d.0.taken r g.0 g.1) ∙ same_value g.2)
