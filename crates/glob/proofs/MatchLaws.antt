-- The laws of the tokens of a pattern, at a place of it. Assumes nothing.
use Rattle.std.specs.Prelude.{None, Option, Some}
use mathlib.Core.Path.{◌≡◌, refl, sym, ◌∙◌}
use mathlib.Core.Bool.{Bool, true, false, cond}
use mathlib.Core.List.{List, [], ◌∷◌, ◌++◌, append-nil, append_assoc}
use Prim.Native.Nat.{ℕ, ◌+◌, ◌-◌, ◌≤◌, ◌<◌}
use native.Mathlib.Omega.{arith}
use native.Mathlib.Decide.{dec_lt}
use borrow.Author.Tests.{ne_eqb, le-leb, lt-leb}
use lib.Dec.{eqb, leb}
use lib.ListN.{length, take, drop, get_or, drop_of_length-le}
use Rattle.text.specs.Lists.{null}
use Rattle.text.specs.Parts.{Parts, part_at}
use Rattle.text.proofs.Laws.{next}
use Rattle.text.specs.Contract.{lead}
use Rattle.glob.specs.Match.{Token, any_run, any_byte, no_byte, this_byte, byte_of, Sign, star, question, backslash, bracket, ordinary, sign_of, tokens, escaped_tokens, set_tokens, match_tokens, matches}
use Rattle.glob.proofs.SetLaws.{FirstFrom, first_from}

-- ---- the sign of a byte
pub is_star : {c : ℕ} → c ≡ 42 → sign_of c ≡ star
unfolding sign_of
is_star e = rw e

pub is_question_law : {c : ℕ} → c ≡ 63 → sign_of c ≡ question
unfolding sign_of
is_question_law e = rw e

pub is_backslash : {c : ℕ} → c ≡ 92 → sign_of c ≡ backslash
unfolding sign_of
is_backslash e = rw e

pub is_bracket : {c : ℕ} → c ≡ 91 → sign_of c ≡ bracket
unfolding sign_of
is_bracket e = rw e

pub is_ordinary : {c : ℕ} → (c ≡ 42 → ⊥) → (c ≡ 63 → ⊥) → (c ≡ 92 → ⊥) → (c ≡ 91 → ⊥) → sign_of c ≡ ordinary
unfolding sign_of
is_ordinary a b d e = simp (ne_eqb _ _ a, ne_eqb _ _ b, ne_eqb _ _ d, ne_eqb _ _ e)

stuck : (a b d e : Bool) → a ≡ false → cond a star (cond b question (cond d backslash (cond e bracket ordinary))) ≡ star → ◌≡◌ {A = ℕ} 0 1
stuck true b d e h k = cc
stuck false true d e h k = cc
stuck false false true e h k = cc
stuck false false false true h k = cc
stuck false false false false h k = cc

pub not_star : {c : ℕ} → (c ≡ 42 → ⊥) → sign_of c ≡ star → ⊥
unfolding sign_of
not_star {c} f e = let z = stuck (eqb c 42) (eqb c 63) (eqb c 92) (eqb c 91) (ne_eqb _ _ f) e in omega arith

-- ---- the first token
module _ (c : ℕ) (p : List ℕ) where
  tokens_star : sign_of c ≡ star → tokens (c ∷ p) ≡ any_run ∷ tokens p
  unfolding tokens
  tokens_star e = rw (e, tokens)

  tokens_question : sign_of c ≡ question → tokens (c ∷ p) ≡ any_byte ∷ tokens p
  unfolding tokens
  tokens_question e = rw (e, tokens)

  tokens_escape : sign_of c ≡ backslash → tokens (c ∷ p) ≡ escaped_tokens p
  unfolding tokens
  tokens_escape e = rw (e, tokens)

  tokens_ordinary : sign_of c ≡ ordinary → tokens (c ∷ p) ≡ this_byte c ∷ tokens p
  unfolding tokens
  tokens_ordinary e = rw (e, tokens)

-- behind the bracket of a set, by what is parted at its `]`
abbrev tokens_in : List ℕ → Option Parts → List Token
tokens_in body None = no_byte ∷ []
tokens_in body (Some q) = byte_of (body ++ q.front) ∷ tokens q.back

set_tokens_law : (body s : List ℕ) → set_tokens body s ≡ tokens_in body (part_at 93 s)
unfolding tokens part_at
set_tokens_law body [] = refl
set_tokens_law body (c ∷ s) = go (eqb c 93) refl (set_tokens_law (body ++ (c ∷ [])) s) (part_at 93 s) refl
  where
    go : (t : Bool) → eqb c 93 ≡ t → set_tokens (body ++ (c ∷ [])) s ≡ tokens_in (body ++ (c ∷ [])) (part_at 93 s) → (o : Option Parts) → part_at 93 s ≡ o → set_tokens body (c ∷ s) ≡ tokens_in body (part_at 93 (c ∷ s))
    go true t e o q = rw (t, set_tokens) (rw (append-nil body))
    go false t e None q = rw (t, set_tokens, q) (rw q at e)
    go false t e (Some x) q = rw (t, set_tokens, q) (rw q at e ∙ rw (append_assoc body (c ∷ []) x.front))

tokens_set : (c : ℕ) (p : List ℕ) → sign_of c ≡ bracket → tokens (c ∷ p) ≡ tokens_in [] (part_at 93 p)
unfolding tokens
tokens_set c p e = rw (e, tokens) (set_tokens_law [] p)

-- ---- where the name or the pattern ends
escape_none : (p : List ℕ) → match_tokens (escaped_tokens p) [] ≡ false
unfolding tokens match_tokens
escape_none [] = refl
escape_none (c ∷ p) = refl

set_none : (o : Option Parts) → match_tokens (tokens_in [] o) [] ≡ false
unfolding match_tokens
set_none None = refl
set_none (Some q) = refl

null_drop : (s : List ℕ) (j : ℕ) → j ≤ length s → null (drop j s) ≡ leb (length s) j
null_drop s j h = elim (dec_lt j (length s)) [ yes g ↦ rw (next s j g, lt-leb _ _ g) | no g ↦ end (omega arith) ]
  where
    end : length s ≤ j → null (drop j s) ≡ leb (length s) j
    end g = rw (drop_of_length-le s g, le-leb _ _ g)

module _ (p s : List ℕ) (i j : ℕ) where
  pub at_end_law : length p ≤ i → j ≤ length s → leb (length s) j ≡ matches (drop i p) (drop j s)
  unfolding matches tokens match_tokens
  at_end_law h g = rw (drop_of_length-le p h) (sym (null_drop s j g))

module _ (p : List ℕ) (i : ℕ) (l : i < length p) where
  pub star_at : sign_of (get_or p i 0) ≡ star → tokens (drop i p) ≡ any_run ∷ tokens (drop (i + 1) p)
  star_at e = rw (next p i l, tokens_star _ _ e)

  pub question_at : sign_of (get_or p i 0) ≡ question → tokens (drop i p) ≡ any_byte ∷ tokens (drop (i + 1) p)
  question_at e = rw (next p i l, tokens_question _ _ e)

  pub ordinary_at : sign_of (get_or p i 0) ≡ ordinary → tokens (drop i p) ≡ this_byte (get_or p i 0) ∷ tokens (drop (i + 1) p)
  ordinary_at e = rw (next p i l, tokens_ordinary _ _ e)

  pub escape_last : sign_of (get_or p i 0) ≡ backslash → length p ≤ i + 1 → tokens (drop i p) ≡ no_byte ∷ []
  unfolding tokens
  escape_last e h = rw (next p i l, tokens_escape _ _ e, drop_of_length-le p h)

  pub escape_at : sign_of (get_or p i 0) ≡ backslash → i + 1 < length p → tokens (drop i p) ≡ this_byte (get_or p (i + 1) 0) ∷ tokens (drop (i + 1 + 1) p)
  unfolding tokens
  escape_at e h = rw (next p i l, tokens_escape _ _ e, next p (i + 1) h)

  module _ (e : ℕ) (o : sign_of (get_or p i 0) ≡ bracket) (k : e ≡ i + 1 + lead 93 (drop (i + 1) p)) where
    w : FirstFrom 93 p (i + 1) e
    w = first_from 93 p (i + 1) e (omega arith) k

    -- an open set
    pub set_open : length p ≤ e → tokens (drop i p) ≡ no_byte ∷ []
    set_open h = rw (next p i l, tokens_set _ _ o, w.parts, drop_of_length-le p h)

    pub set_at : e < length p → tokens (drop i p) ≡ byte_of (take (e - (i + 1)) (drop (i + 1) p)) ∷ tokens (drop (e + 1) p)
    set_at h = rw (next p i l, tokens_set _ _ o, w.parts, next p e h)

  -- no token but a star matches nothing
  pub none_left : (sign_of (get_or p i 0) ≡ star → ⊥) → matches (drop i p) [] ≡ false
  unfolding matches match_tokens
  none_left f = rw (next p i l) (go (sign_of (get_or p i 0)) refl)
    where
      go : (m : Sign) → sign_of (get_or p i 0) ≡ m → match_tokens (tokens (get_or p i 0 ∷ drop (i + 1) p)) [] ≡ false
      go star e = absurd (f e)
      go question e = rw (tokens_question _ _ e)
      go backslash e = rw (tokens_escape _ _ e) (escape_none (drop (i + 1) p))
      go bracket e = rw (tokens_set _ _ e) (set_none (part_at 93 (drop (i + 1) p)))
      go ordinary e = rw (tokens_ordinary _ _ e)
