-- A line's settings, as its fields are read one after the other. Assumes nothing.
use Rattle.std.specs.List.{list_any}
use mathlib.Core.Path.{◌≡◌, refl, sym, ap, ◌∙◌}
use mathlib.Core.Bool.{Bool, true, false, ◌&&◌, ◌||◌}
use mathlib.Core.List.{List, [], ◌∷◌, ◌++◌, append-nil, append_assoc}
use Prim.Native.Nat.{ℕ, zero, suc, ◌+◌, ◌<◌}
use native.Mathlib.Omega.{arith}
use borrow.Author.Tests.{eq-eqb, ne_eqb, eqb-true}
use lib.Dec.{eqb, ltb, leb-zero, leb-suc-zero, leb-suc-suc}
use lib.ListN.{get_or, set}
use Rattle.text.proofs.Laws.{either_no, either_yes, either_assoc, both_no, same_test}
use Rattle.text.proofs.Lists.{any_append}
use Rattle.options.specs.Options.{over}
use Rattle.options.specs.Read.{Setting, options_of, arguments_of, is_option, has_shell, twice}
use Rattle.options.specs.Contract.{standing, line_of, noted}
use Rattle.options.proofs.SetLaws.{over_none, none_over, over_assoc}

-- one more setting at the end of a line's settings: its options lie under what the line had
pub options_more : (ss : List Setting) (s : Setting) → options_of (ss ++ (s ∷ [])) ≡ over (options_of ss) s.options
unfolding options_of
options_more [] s = over_none s.options ∙ sym (none_over s.options)
options_more (x ∷ ss) s = ap (over x.options) (options_more ss s) ∙ sym (over_assoc x.options (options_of ss) s.options)

-- its argument patterns stand behind
pub arguments_more : (ss : List Setting) (s : Setting) → arguments_of (ss ++ (s ∷ [])) ≡ arguments_of ss ++ s.arguments
unfolding arguments_of
arguments_more [] s = append-nil s.arguments
arguments_more (x ∷ ss) s = ap (λ l. x.arguments ++ l) (arguments_more ss s) ∙ sym (append_assoc x.arguments (arguments_of ss) s.arguments)

any_more : (k : ℕ) (ss : List Setting) (s : Setting) → list_any (is_option k) (ss ++ (s ∷ [])) ≡ list_any (is_option k) ss || is_option k s
any_more k ss s = any_append (is_option k) ss (s ∷ []) ∙ ap (◌||◌ (list_any (is_option k) ss)) (either_no (is_option k s))

-- a setting with a smaller number is none of those that are looked for
standing_past : (n k : ℕ) (ss : List Setting) (s : Setting) → s.which < k → standing n k (ss ++ (s ∷ [])) ≡ standing n k ss
unfolding standing
standing_past zero k ss s h = refl
standing_past (suc n) k ss s h =
    let e : eqb s.which k ≡ false = ne_eqb s.which k (λ q. omega arith) in
    rw (any_more k ss s, e, either_no (list_any (is_option k) ss), standing_past n (k + 1) ss s (omega arith))

standing_set : (n k i : ℕ) (ss : List Setting) (s : Setting) → s.which ≡ k + i → set (standing n k ss) i true ≡ standing n k (ss ++ (s ∷ []))
unfolding standing
standing_set zero k i ss s e = refl
standing_set (suc n) k zero ss s e =
    let q : eqb s.which k ≡ true = eq-eqb s.which k (omega arith) in
    rw (any_more k ss s, q, either_yes (list_any (is_option k) ss), standing_past n (k + 1) ss s (omega arith))
standing_set (suc n) k (suc i) ss s e =
    let q : eqb s.which k ≡ false = ne_eqb s.which k (λ z. omega arith) in
    rw (any_more k ss s, q, either_no (list_any (is_option k) ss), standing_set n (k + 1) i ss s (omega arith))

standing_at : (n k i : ℕ) (ss : List Setting) → get_or (standing n k ss) i false ≡ ltb i n && list_any (is_option (k + i)) ss
unfolding standing
standing_at zero k i ss = rw (leb-suc-zero i)
standing_at (suc n) k zero ss = let z : k + 0 ≡ k = omega arith in rw (z, leb-suc-suc 0 n, leb-zero n)
standing_at (suc n) k (suc i) ss =
    let z : k + suc i ≡ k + 1 + i = omega arith in
    rw (z, leb-suc-suc (suc i) n) (standing_at n (k + 1) i ss)

regroup : (a b t c d m : Bool) → (m ≡ true → c ≡ a) → a && (b || m) || (t || c && d) ≡ a && b || t || c && (m || d)
regroup a b t c d false e = rw (either_no b) (sym (either_assoc (a && b) t (c && d)))
regroup true b t c d true e = rw (e refl, either_yes b, either_yes (b || t))
regroup false b t c d true e = rw (e refl)

eqb_swap : (m n : ℕ) → eqb m n ≡ eqb n m
eqb_swap m n = same_test (eqb m n) (eqb n m) (λ e. eq-eqb n m (sym (eqb-true m n e))) (λ e. eq-eqb m n (sym (eqb-true n m e)))

twice_more : (ss : List Setting) (s : Setting) → twice (ss ++ (s ∷ [])) ≡ twice ss || ltb s.which 8 && list_any (is_option s.which) ss
unfolding twice
twice_more [] s = rw (both_no (ltb s.which 8))
twice_more (x ∷ ss) s =
    rw (any_more x.which ss s, twice_more ss s, eqb_swap x.which s.which)
    (regroup (ltb x.which 8) (list_any (is_option x.which) ss) (twice ss) (ltb s.which 8) (list_any (is_option s.which) ss) (eqb s.which x.which) (λ e. ap (λ (k : ℕ). ltb k 8) (eqb-true s.which x.which e)))

-- so what is kept of a line's settings can be kept one after the other
pub line_more : (ss : List Setting) (s : Setting) → noted (line_of ss) s ≡ line_of (ss ++ (s ∷ []))
unfolding noted line_of
line_more ss s =
    let z : 0 + s.which ≡ s.which = omega arith in
    rw (standing_set 8 0 s.which ss s (sym z), standing_at 8 0 s.which ss, z, twice_more ss s)

-- and tells whether `patterns=shell` is among them, and whether an option stands twice
pub line_shell : (ss : List Setting) → get_or (line_of ss).stands 7 false ≡ has_shell ss
unfolding line_of has_shell
line_shell ss = standing_at 8 0 7 ss

pub line_twice : (ss : List Setting) → (line_of ss).twice ≡ twice ss
unfolding line_of
line_twice ss = refl
