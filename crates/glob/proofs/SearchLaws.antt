-- The laws of matching by the last star only: a token, a try up to the next star, the tries behind one. Assumes nothing.
use mathlib.Core.Path.{◌≡◌, refl, sym, ◌∙◌}
use mathlib.Core.Bool.{Bool, true, false, ◌&&◌}
use mathlib.Core.List.{List, [], ◌∷◌}
use mathlib.Core.Logic.{inl, inr}
use Prim.Native.Nat.{ℕ, ◌+◌, ◌-◌, ◌≤◌, ◌<◌}
use native.Mathlib.Numerals.{add-one}
use native.Mathlib.Omega.{arith}
use borrow.Author.Tests.{le-leb, lt-leb}
use lib.Dec.{eqb}
use lib.ListN.{length, drop, get_or, length-drop, drop_of_length-le}
use lib.Seq.{drop-drop}
use Rattle.text.proofs.Laws.{next, both_true, both_yes, either_no, either_of, either_true, false_of, same_test, clash, untrue}
use Rattle.glob.specs.Set.{negates, in_set}
use Rattle.glob.specs.Match.{Token, any_run, any_byte, no_byte, this_byte, byte_of, sign_of, star, tokens, tails, match_tokens, matches}
use Rattle.std.specs.Prelude.{None, Option, Some}
use Rattle.std.specs.Option.{is_some, unwrap_or}
use Rattle.std.specs.Bool.{then_some}
use Rattle.glob.specs.Contract.{Tests, worth, Usable, OneLess, Covers, is_run, takes, tests_of, tests_at, TakesTo, TakesNot, matches_behind, Stars, Fails, FailsOn}
use Rattle.glob.specs.declared.matcher.Budget.{Budget}
use Rattle.glob.proofs.BudgetLaws.{covers_less, covers_on}
use Rattle.glob.proofs.MatchLaws.{is_star, not_star, at_end_law, star_at, none_left}

-- ---- a token that is no star
byte_takes : (c b : ℕ) → takes (this_byte c) b ≡ eqb c b
unfolding takes match_tokens
byte_takes c b = both_yes (eqb c b)

set_takes : (t : List ℕ) (b : ℕ) → takes (byte_of t) b ≡ in_set negates t b
unfolding takes match_tokens
set_takes t b = both_yes (in_set negates t b)

token_matches : (t : Token) (q : List Token) (b : ℕ) (s : List ℕ) → is_run t ≡ false → match_tokens (t ∷ q) (b ∷ s) ≡ takes t b && match_tokens q s
unfolding match_tokens is_run takes tails
token_matches any_run q b s e = clash cc
token_matches any_byte q b s e = refl
token_matches no_byte q b s e = refl
token_matches (this_byte c) q b s e = rw (both_yes (eqb c b))
token_matches (byte_of t) q b s e = rw (both_yes (in_set negates t b))

token_none : (t : Token) (q : List Token) → is_run t ≡ false → match_tokens (t ∷ q) [] ≡ false
unfolding match_tokens is_run tails
token_none any_run q e = clash cc
token_none any_byte q e = refl
token_none no_byte q e = refl
token_none (this_byte c) q e = refl
token_none (byte_of t) q e = refl

module _ (t : Token) (q : List Token) (b : ℕ) (s : List ℕ) (n : is_run t ≡ false) where
  tests_on : takes t b ≡ true → tests_of (t ∷ q) (b ∷ s) ≡ tests_of q s + 1
  unfolding tests_of
  tests_on e = rw (n, e) (sym (add-one (tests_of q s)))

  tests_off : takes t b ≡ false → tests_of (t ∷ q) (b ∷ s) ≡ 1
  unfolding tests_of
  tests_off e = rw (n, e)

-- ---- the token at a place, and a byte
module _ (p : List ℕ) (i b : ℕ) where
  pub no_byte_law : tokens (drop i p) ≡ no_byte ∷ [] → Tests p i b None
  unfolding is_run takes
  no_byte_law e = record { token = no_byte; rest = []; here = e; no_star = refl; not_taken = refl }

  module _ (k : ℕ) (l : i < k) (h : k ≤ length p) where
    pub any_byte_law : tokens (drop i p) ≡ any_byte ∷ tokens (drop k p) → Tests p i b (Some k)
    unfolding is_run takes
    any_byte_law e = record { token = any_byte; ahead = l; high = h; here = e; no_star = refl; taken = refl }

    pub this_byte_law : (c : ℕ) (r : Bool) → tokens (drop i p) ≡ this_byte c ∷ tokens (drop k p) → r ≡ eqb c b → Tests p i b (then_some r k)
    unfolding is_run
    this_byte_law c true e f = record { token = this_byte c; ahead = l; high = h; here = e; no_star = refl; taken = byte_takes c b ∙ sym f }
    this_byte_law c false e f = record { token = this_byte c; rest = tokens (drop k p); here = e; no_star = refl; not_taken = byte_takes c b ∙ sym f }

    pub set_byte : (t : List ℕ) (r : Bool) → tokens (drop i p) ≡ byte_of t ∷ tokens (drop k p) → r ≡ in_set negates t b → Tests p i b (then_some r k)
    unfolding is_run
    set_byte t true e f = record { token = byte_of t; ahead = l; high = h; here = e; no_star = refl; taken = set_takes t b ∙ sym f }
    set_byte t false e f = record { token = byte_of t; rest = tokens (drop k p); here = e; no_star = refl; not_taken = set_takes t b ∙ sym f }

-- ---- a star behind which nothing so short matches
behind_none : (q : List ℕ) (n : ℕ) → ((t : List ℕ) → length t ≤ n → matches q t ≡ false) → (s : List ℕ) → length s ≤ n → matches_behind q s ≡ false
unfolding matches_behind tails
behind_none q n f [] h = rw (f [] h)
behind_none q n f (a ∷ s) h = rw (f (a ∷ s) h) (behind_none q n f s (omega arith))

behind_tokens : (p : List ℕ) (i : ℕ) (s : List ℕ) → i < length p → sign_of (get_or p i 0) ≡ star → matches_behind (drop (i + 1) p) s ≡ matches (drop i p) s
unfolding matches match_tokens matches_behind
behind_tokens p i s l e = rw (star_at p i l e)

-- ---- a try: the pattern from i on at the name's byte j has come to `at` and `to`
pub record Trying (p : List ℕ) (i : ℕ) (s : List ℕ) (j : ℕ) (b : Budget) (at to : ℕ) (left : Budget) : Type 0 where
  pub low : i ≤ at
  pub high : at ≤ length p
  pub begun : j ≤ to
  pub most : to ≤ length s
  pub usable : Usable (length p) left
  -- each byte taken takes a token, and uses one test
  pub pace : to + i ≤ at + j
  pub spent : worth (length p) left + to ≡ worth (length p) b + j
  pub tests : tests_at p i s j + j ≡ tests_at p at s to + to
  pub same : matches (drop at p) (drop to s) ≡ matches (drop i p) (drop j s)
  pub later : (t : List ℕ) → matches (drop i p) t ≡ true → matches (drop at p) (drop (to - j) t) ≡ true

module _ {p : List ℕ} {i : ℕ} {s : List ℕ} {j : ℕ} {b : Budget} {at to : ℕ} {left : Budget} (w : Trying p i s j b at to left) where
  pub try_whole : length p ≤ at → length s ≤ to → true ≡ matches (drop i p) (drop j s)
  try_whole h g = sym (le-leb _ _ g) ∙ at_end_law p s at to h w.most ∙ w.same

  pub try_rest : length p ≤ at → to < length s → Fails p i s j b left
  unfolding tokens tests_of
  try_rest h g =
      let z : tests_at p at s to ≡ 0 = rw (drop_of_length-le p h) in
      record {
        more = omega (arith, w.begun);
        usable = w.usable;
        uses = omega (arith, w.spent, w.tests, w.begun, z);
        few = omega (arith, w.tests, w.pace, w.high, w.begun, z);
        same = sym (lt-leb _ _ g) ∙ at_end_law p s at to h w.most ∙ w.same;
      }

  module _ (h : at < length p) where
    pub try_star : get_or p at 0 ≡ 42 → Stars p i s j (at + 1) to b left
    unfolding tests_of
    try_star e =
        let z : tests_at p at s to ≡ 0 = rw (star_at p at h (is_star e)) in
        record {
          ahead = omega (arith, w.low);
          high = omega arith;
          low = w.begun;
          most = w.most;
          usable = w.usable;
          uses = omega (arith, w.spent, w.tests, w.begun, z);
          tests = omega (arith, w.tests, z);
          same = behind_tokens p at (drop to s) h (is_star e) ∙ w.same;
          later = λ t m. behind_tokens p at (drop (to - j) t) h (is_star e) ∙ w.later t m;
        }

    -- where the name ends, no later start is long enough
    pub try_short : (get_or p at 0 ≡ 42 → ⊥) → length s ≤ to → FailsOn p i s j
    try_short n g = record { here = here; later = sym (behind_none (drop i p) (to - j) few (drop j s) (omega (arith, w.begun, length-drop j s))) }
      where
        here : false ≡ matches (drop i p) (drop j s)
        here = sym (rw (drop_of_length-le s g) (none_left p at h (not_star n))) ∙ w.same

        few : (t : List ℕ) → length t ≤ to - j → matches (drop i p) t ≡ false
        few t k = false_of _ (λ e. clash (let z : false ≡ true = sym (none_left p at h (not_star n)) ∙ rw (drop_of_length-le t k) at (w.later t e) in cc))

    pub try_off : (less : Budget) → to < length s → OneLess (length p) left less → TakesNot p at (get_or s to 0) → Fails p i s j b less
    unfolding matches
    try_off less g d f =
        let z : tests_at p at s to ≡ 1 = rw (f.here, next s to g) (tests_off f.token f.rest (get_or s to 0) (drop (to + 1) s) f.no_star f.not_taken) in
        let m : matches (drop at p) (drop to s) ≡ false = rw (f.here, next s to g) (token_matches f.token f.rest (get_or s to 0) (drop (to + 1) s) f.no_star ∙ rw f.not_taken) in
        record {
          more = omega (arith, w.begun);
          usable = d.usable;
          uses = omega (arith, w.spent, w.tests, w.begun, d.spent, z);
          few = omega (arith, w.tests, w.pace, w.begun, z);
          same = sym m ∙ w.same;
        }

    pub try_on : (less : Budget) (k : ℕ) → to < length s → OneLess (length p) left less → TakesTo p at (get_or s to 0) k → Trying p i s j b k (to + 1) less
    unfolding matches
    try_on less k g d f =
        let z : tests_at p at s to ≡ tests_at p k s (to + 1) + 1 = rw (f.here, next s to g) (tests_on f.token (tokens (drop k p)) (get_or s to 0) (drop (to + 1) s) f.no_star f.taken) in
        let m : matches (drop at p) (drop to s) ≡ matches (drop k p) (drop (to + 1) s) = rw (f.here, next s to g) (token_matches f.token (tokens (drop k p)) (get_or s to 0) (drop (to + 1) s) f.no_star ∙ rw f.taken) in
        record {
          low = omega (arith, w.low, f.ahead);
          high = f.high;
          begun = omega (arith, w.begun);
          most = omega arith;
          usable = d.usable;
          pace = omega (arith, w.pace, f.ahead);
          spent = omega (arith, w.spent, d.spent);
          tests = omega (arith, w.tests, z);
          same = sym m ∙ w.same;
          later = go;
        }
      where
        on : (t : List ℕ) → matches (drop at p) t ≡ true → matches (drop k p) (drop 1 t) ≡ true
        on [] e = clash (let y : false ≡ true = sym (token_none f.token (tokens (drop k p)) f.no_star) ∙ rw f.here at e in cc)
        on (c ∷ t) e = (both_true (takes f.token c) _ (sym (token_matches f.token (tokens (drop k p)) c t f.no_star) ∙ rw f.here at e)).1

        go : (t : List ℕ) → matches (drop i p) t ≡ true → matches (drop k p) (drop (to + 1 - j) t) ≡ true
        go t e =
            let u : to + 1 - j ≡ to - j + 1 = omega (arith, w.begun) in
            rw (u, ← (drop-drop 1 (to - j) t)) (on _ (w.later t e))

-- ---- behind a star
behind_here : (q s : List ℕ) → matches q s ≡ true → matches_behind q s ≡ true
unfolding matches_behind tails
behind_here q [] e = rw e
behind_here q (a ∷ s) e = rw e

behind_more : (q s : List ℕ) → matches_behind q (drop 1 s) ≡ true → matches_behind q s ≡ true
unfolding matches_behind tails
behind_more q [] e = e
behind_more q (a ∷ s) e = either_of (matches q (a ∷ s)) _ e

behind_later : (q r : List ℕ) (n : ℕ) → ((t : List ℕ) → matches q t ≡ true → matches_behind r (drop n t) ≡ true) → (s : List ℕ) → matches_behind q s ≡ true → matches_behind r (drop n s) ≡ true
unfolding matches_behind tails
behind_later q r n f [] e = f [] (sym (either_no (matches q [])) ∙ e)
behind_later q r n f (a ∷ s) e = elim (either_true (matches q (a ∷ s)) _ e) [ inl h ↦ f (a ∷ s) h | inr h ↦ on (behind_later q r n f s h) ]
  where
    on : matches_behind r (drop n s) ≡ true → matches_behind r (drop n (a ∷ s)) ≡ true
    on m = behind_more r (drop n (a ∷ s)) (rw (drop-drop 1 n (a ∷ s), add-one) m)

-- a star that nothing follows takes whatever is left
behind_end : (s : List ℕ) → matches_behind [] s ≡ true
unfolding matches_behind tails matches tokens match_tokens
behind_end [] = refl
behind_end (a ∷ s) = behind_end s

-- ---- the search
-- what is looked for: the pattern itself, or, once a star was met, what follows the last one behind some run of bytes
abbrev pub sought : Option ℕ → List ℕ → List ℕ → Bool
sought None q s = matches q s
sought (Some i) q s = matches_behind q s

-- where the pattern goes on: behind the last star
abbrev pub from_star : Option ℕ → ℕ
from_star o = unwrap_or o 0

pub sought_whole : (o : Option ℕ) (q s : List ℕ) → true ≡ matches q s → true ≡ sought o q s
sought_whole None q s e = e
sought_whole (Some i) q s e = sym (behind_here q s (sym e))

module _ {p : List ℕ} {i : ℕ} {s : List ℕ} {j : ℕ} where
  module _ {b l : Budget} {k m : ℕ} (w : Stars p i s j k m b l) where
    -- what follows the next star: the one before it need not be gone back to
    behind_star : matches_behind (drop k p) (drop m s) ≡ matches_behind (drop i p) (drop j s)
    behind_star = same_test _ _ (λ e. behind_here _ _ (sym w.same ∙ e)) back
      where
        back : matches_behind (drop i p) (drop j s) ≡ true → matches_behind (drop k p) (drop m s) ≡ true
        back e =
            let u : j + (m - j) ≡ m = omega (arith, w.low) in
            rw (drop-drop (m - j) j s, u) at (behind_later (drop i p) (drop k p) (m - j) w.later (drop j s) e)

    -- what follows the next star is what is looked for from there on
    pub sought_star : (o : Option ℕ) → matches_behind (drop k p) (drop m s) ≡ sought o (drop i p) (drop j s)
    sought_star None = w.same
    sought_star (Some n) = behind_star

    pub sought_end : (o : Option ℕ) → k ≡ length p → true ≡ sought o (drop i p) (drop j s)
    sought_end o e =
        let h : length p ≤ k = omega arith in
        sym (rw (drop_of_length-le p h) (behind_end (drop m s))) ∙ sought_star o

    pub covers_star : Covers (length p) (length s - j) (length s) b → Covers (length p) (length s - m) (length s) l
    covers_star c = covers_on (length p) (length s - j) (length s - m) (length s) (m - j) b l (omega (arith, w.low, w.most)) (omega (arith, w.ahead, w.high)) w.usable c (omega (arith, w.uses, w.tests))

  module _ {b l : Budget} (w : Fails p i s j b l) where
    -- before the first star there is nothing to go back to
    pub sought_next : (o : Option ℕ) → is_some o ≡ true → sought o (drop i p) (drop (j + 1) s) ≡ sought o (drop i p) (drop j s)
    unfolding matches_behind tails
    sought_next None e = untrue e
    sought_next (Some k) e =
        let h : j < length s = w.more in
        rw (next s j h) (rw (← (rw (next s j h) at w.same)))

    pub covers_next : Covers (length p) (length s - j) (length s) b → Covers (length p) (length s - (j + 1)) (length s) l
    covers_next c = covers_less (length p) (length s - j) (length s - (j + 1)) (length s) (tests_at p i s j) b l (omega (arith, w.more)) w.usable c w.uses w.few
