-- What a brace-free pattern matches (01: "`*` any run of bytes, slash too; `?` one byte", sets, "`\c` is c").
use Rattle.std.specs.List.{list_any}
use Rattle.std.specs.Prelude.{ℕ, Bool, true, false, cond, ◌&&◌, List, [], ◌∷◌, ◌++◌, eqb}
use Rattle.text.specs.Bytes.{is}
use Rattle.text.specs.Lists.{null}
use Rattle.glob.specs.Set.{negates, in_set}

-- what a brace-free pattern is made of; nothing matches an open set or a last backslash
pub data Token : Type 0 where
  any_run any_byte no_byte : Token
  this_byte : ℕ → Token
  byte_of : List ℕ → Token

-- what a byte outside a set and not after a backslash begins
pub data Sign : Type 0 where
  star question backslash bracket ordinary : Sign

-- what a byte of a brace-free pattern begins
unfoldable pub sign_of : ℕ → Sign
sign_of c = cond (is "*" c) star (cond (is "?" c) question (cond (is "\\" c) backslash (cond (is "[" c) bracket ordinary)))

unfoldable mutual
  unfolding sign_of

  -- the tokens of a brace-free pattern
  pub tokens : List ℕ → List Token
  tokens [] = []
  tokens (c ∷ p) = elim (sign_of c) [ star ↦ any_run ∷ tokens p | question ↦ any_byte ∷ tokens p | backslash ↦ escaped_tokens p | bracket ↦ set_tokens [] p | ordinary ↦ this_byte c ∷ tokens p ]

  -- behind a backslash
  pub escaped_tokens : List ℕ → List Token
  escaped_tokens [] = no_byte ∷ []
  escaped_tokens (d ∷ p) = this_byte d ∷ tokens p

  -- inside a set, up to its `]`
  pub set_tokens : List ℕ → List ℕ → List Token
  set_tokens body [] = no_byte ∷ []
  set_tokens body (c ∷ p) = elim (is "]" c) [ true ↦ byte_of body ∷ tokens p | false ↦ set_tokens (body ++ (c ∷ [])) p ]

-- a byte that passes the test, and then what follows
abbrev pub one_byte : (ℕ → Bool) → (List ℕ → Bool) → List ℕ → Bool
one_byte f k [] = false
one_byte f k (b ∷ s) = f b && k s

-- what is left behind each run that `*` can take
unfoldable pub tails : List ℕ → List (List ℕ)
tails [] = [] ∷ []
tails (a ∷ s) = (a ∷ s) ∷ tails s

-- the tokens match the whole of a name
unfoldable pub match_tokens : List Token → List ℕ → Bool
unfolding tails in_set
match_tokens [] s = null s
match_tokens (any_run ∷ p) s = list_any (match_tokens p) (tails s)
match_tokens (any_byte ∷ p) s = one_byte (λ _. true) (match_tokens p) s
match_tokens (no_byte ∷ p) s = false
match_tokens (this_byte c ∷ p) s = one_byte (eqb c) (match_tokens p) s
match_tokens (byte_of t ∷ p) s = one_byte (in_set negates t) (match_tokens p) s

-- the brace-free pattern matches the whole name
unfoldable pub matches : List ℕ → List ℕ → Bool
unfolding tokens match_tokens
matches p s = match_tokens (tokens p) s
