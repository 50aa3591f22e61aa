-- What only contracts and proofs cite: the answers of the functions hold places, those of the definitions lists.
use Rattle.std.specs.List.{list_any}
use Rattle.std.specs.Prelude.{ℕ, suc, ◌+◌, ◌*◌, ◌-◌, ◌≤◌, ◌<◌, ◌≡◌, Bool, true, false, cond, List, [], ◌∷◌, length, drop, None, Option, Some}
use Rattle.glob.specs.Match.{Token, tokens, tails, match_tokens, matches}
use Rattle.glob.specs.declared.matcher.Budget.{Budget}
use Rattle.glob.specs.declared.matcher.Tried.{Tried}
use Rattle.glob.specs.declared.matcher.Tried.TheVariants.{Whole, Star, Off, Short}

-- ---- the search by the last star, and its budget (02 (iii))
-- the tests that a budget is good for, where a row has so many
unfoldable pub worth : ℕ → Budget → ℕ
worth row b = b.rows * row - b.used

-- not more than a row was used of the first one
abbrev pub Usable : ℕ → Budget → Type 0
Usable row b = b.used ≤ row

-- one test less
pub record OneLess (row : ℕ) (old new : Budget) : Type 0 where
  pub usable : Usable row new
  pub spent : worth row old ≡ worth row new + 1

-- one test less, or nothing was left
abbrev pub Spends : ℕ → Budget → (Option Budget) → Type 0
Spends row b (Some l) = OneLess row b l
Spends row b None = worth row b ≡ 0

-- the budget is the product: a row of tests for each of so many bytes, neither less nor more
pub record IsProduct (row bytes : ℕ) (b : Budget) : Type 0 where
  pub usable : Usable row b
  pub exact : worth row b ≡ row * bytes

-- the budget is good for a row of tests at each of so many bytes, and not for more than a row at each of all bytes
pub record Covers (row bytes all : ℕ) (b : Budget) : Type 0 where
  pub usable : Usable row b
  pub enough : bytes * row ≤ worth row b
  pub most : worth row b ≤ row * all

-- a star is the one token that needs no byte
unfoldable pub is_run : Token → Bool
unfolding match_tokens
is_run t = match_tokens (t ∷ []) []

-- whether a token takes a byte
unfoldable pub takes : Token → ℕ → Bool
unfolding match_tokens
takes t b = match_tokens (t ∷ []) (b ∷ [])

-- one test, where there is a byte, and those behind it where the byte is taken
abbrev pub tests_by : Token → (List ℕ → ℕ) → List ℕ → ℕ
tests_by t k [] = 0
tests_by t k (b ∷ s) = suc (cond (takes t b) (k s) 0)

-- the tests of bytes that trying the tokens at a name makes, up to the next star
unfoldable pub tests_of : List Token → List ℕ → ℕ
unfolding is_run takes
tests_of [] s = 0
tests_of (t ∷ p) s = cond (is_run t) 0 (tests_by t (tests_of p) s)

-- the token of p at i takes the byte b, and the next one begins at k
pub record TakesTo (p : List ℕ) (i b k : ℕ) : Type 0 where
  pub token : Token
  pub ahead : i < k
  pub high : k ≤ length p
  pub here : tokens (drop i p) ≡ token ∷ tokens (drop k p)
  pub no_star : is_run token ≡ false
  pub taken : takes token b ≡ true

-- the token of p at i does not take the byte
pub record TakesNot (p : List ℕ) (i b : ℕ) : Type 0 where
  pub token : Token
  pub rest : List Token
  pub here : tokens (drop i p) ≡ token ∷ rest
  pub no_star : is_run token ≡ false
  pub not_taken : takes token b ≡ false

-- what a test of the byte b by the token of p at i comes to
abbrev pub Tests : List ℕ → ℕ → ℕ → Option ℕ → Type 0
Tests p i b (Some k) = TakesTo p i b k
Tests p i b None = TakesNot p i b

-- what a star matches that p follows: some run of bytes, and then what p matches
unfoldable pub matches_behind : List ℕ → List ℕ → Bool
unfolding tails matches
matches_behind p s = list_any (matches p) (tails s)

-- the tests of trying p from i on at the name's byte j
abbrev pub tests_at : List ℕ → ℕ → List ℕ → ℕ → ℕ
tests_at p i s j = tests_of (tokens (drop i p)) (drop j s)

-- the budget has lost those tests
abbrev pub Uses : List ℕ → ℕ → List ℕ → ℕ → Budget → Budget → Type 0
Uses p i s j old new = worth (length p) old ≡ worth (length p) new + tests_at p i s j

-- p from i on matches s from j on up to a star: k is behind it, and m behind the bytes taken, each by one test
pub record Stars (p : List ℕ) (i : ℕ) (s : List ℕ) (j k m : ℕ) (old new : Budget) : Type 0 where
  pub ahead : i < k
  pub high : k ≤ length p
  pub low : j ≤ m
  pub most : m ≤ length s
  pub usable : Usable (length p) new
  pub uses : Uses p i s j old new
  pub tests : tests_at p i s j + j ≡ m
  pub same : matches_behind (drop k p) (drop m s) ≡ matches (drop i p) (drop j s)
  -- wherever else p from i on matches, so does what follows the star, behind as many bytes
  pub later : (t : List ℕ) → matches (drop i p) t ≡ true → matches_behind (drop k p) (drop (m - j) t) ≡ true

-- it does not match there, before the name's end, by not more tests than the pattern has bytes
pub record Fails (p : List ℕ) (i : ℕ) (s : List ℕ) (j : ℕ) (old new : Budget) : Type 0 where
  pub more : j < length s
  pub usable : Usable (length p) new
  pub uses : Uses p i s j old new
  pub few : tests_at p i s j ≤ length p
  pub same : false ≡ matches (drop i p) (drop j s)

-- it does not match there, nor at any later byte
pub record FailsOn (p : List ℕ) (i : ℕ) (s : List ℕ) (j : ℕ) : Type 0 where
  pub here : false ≡ matches (drop i p) (drop j s)
  pub later : false ≡ matches_behind (drop i p) (drop j s)

-- what a try comes to; the budget is never spent
abbrev pub Tries : List ℕ → ℕ → List ℕ → ℕ → Budget → Option Tried → Type 0
Tries p i s j b (Some Whole) = true ≡ matches (drop i p) (drop j s)
Tries p i s j b (Some (Star k m l)) = Stars p i s j k m b l
Tries p i s j b (Some (Off l)) = Fails p i s j b l
Tries p i s j b (Some Short) = FailsOn p i s j
Tries p i s j b None = ⊥
