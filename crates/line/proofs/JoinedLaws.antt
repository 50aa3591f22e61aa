-- The joined line and the indents, from a place of the line on.
use Rattle.std.specs.List.{position, position_or_len}
use Rattle.std.specs.Option.{unwrap_or}
use Rattle.std.specs.Prelude.{None, Option, Some}
use Rattle.std.proofs.lemmas.List.Recursion.{is_position_or_len}
use Rattle.std.proofs.lemmas.List.Sums.{prefix_len-le-length}
use mathlib.Core.Path.{◌≡◌, refl, sym, ap, ◌∙◌}
use mathlib.Core.Bool.{Bool, true, false, not, cond, ◌&&◌}
use mathlib.Core.Logic.{inl, inr}
use mathlib.Core.List.{List, [], ◌∷◌, ◌++◌, map}
use Prim.Native.Nat.{ℕ, zero, suc, ◌+◌, ◌-◌, ◌≤◌, ◌<◌}
use native.Mathlib.Omega.{arith}
use native.Mathlib.Decide.{dec_le}
use native.Mathlib.Numerals.{add-one}
use borrow.Author.Tests.{eqb-true, ne_eqb, le-ltb, lt-ltb}
use lib.Dec.{eqb, ltb}
use lib.ListN.{length, take, drop, get_or, length-drop, drop_of_length-le}
use lib.Seq.{drop-cons, drop-drop, get_or-drop}
use Rattle.text.specs.Bytes.{byte, is}
use Rattle.text.specs.Class.{blank}
use Rattle.text.specs.Contract.{lead}
use Rattle.text.specs.Slice.{head_is}
use Rattle.text.proofs.Laws.{next, part_rest, clash, both_no, both_true, either_true}
use Rattle.line.specs.Joined.{Mode, JoinedByte, begins, leading, gives, joins, join_blank, mode_after, mode_joined, joined_from, indented}
use Rattle.line.specs.Contract.{joins_at, joined_at}

-- ---- at the first byte
pub begins_head : (c : ℕ) (s : List ℕ) → begins (λ b. eqb b c) s ≡ head_is c s
unfolding head_is
begins_head c [] = refl
begins_head c (b ∷ s) = refl

-- no byte but a backslash joins
no_join : (b : ℕ) (s : List ℕ) → is "\\" b ≡ false → joins b s ≡ false
no_join b s e = rw e

pub joined_step : (hash : Bool) (m : Mode) (before b : ℕ) (s : List ℕ) → joins b s ≡ false → joined_from hash 0 m before (b ∷ s) ≡ gives m b ∷ joined_from hash 0 (mode_after m b) b s
unfolding joined_from
joined_step hash m before b s e = rw (e, joined_from)

pub joined_join : (hash : Bool) (m : Mode) (before b : ℕ) (s : List ℕ) → joins b s ≡ true → joined_from hash 0 m before (b ∷ s) ≡ join_blank m before ++ joined_from hash (suc (leading blank (drop 1 s))) (mode_joined hash m) b s
unfolding joined_from
joined_join hash m before b s e = rw (e, joined_from)

-- what is skipped is as if it were not there
joined_skip : (hash : Bool) (n : ℕ) (m : Mode) (before : ℕ) (s : List ℕ) → joined_from hash n m before s ≡ joined_from hash 0 m (get_or (before ∷ s) n 0) (drop n s)
unfolding joined_from
joined_skip hash zero m before s = refl
joined_skip hash (suc n) m before [] = refl
joined_skip hash (suc n) m before (b ∷ s) = joined_skip hash n m b s

-- ---- at a place
module _ (line : List ℕ) (i : ℕ) (h : i < length line) where
  -- a join has its newline in the line
  pub joins_room : joins_at (drop i line) ≡ true → i + 2 ≤ length line
  joins_room e = elim (dec_le (length line) (i + 1)) [ yes k ↦ none k | no k ↦ omega arith ]
    where
      none : length line ≤ i + 1 → i + 2 ≤ length line
      none k = let f : false ≡ true = sym (both_no (is "\\" (get_or line i 0))) ∙ rw (next line i h, drop_of_length-le line k) at e in clash cc

-- ---- how many bytes pass, from a place on
module _ (f : ℕ → Bool) (s : List ℕ) (i : ℕ) where
  pub leading_some : i < length s → f (get_or s i 0) ≡ true → 0 < leading f (drop i s)
  unfolding leading
  leading_some h t = rw (next s i, t) (omega arith)

-- they end where the first stands that does not pass, or with the bytes
module _ (f : ℕ → Bool) (s : List ℕ) where
  leading_before : leading f s ≡ position_or_len (λ b. not (f b)) s
  unfolding leading
  leading_before = is_position_or_len (leading f) (λ b. not (f b)) refl (λ b r. by (f b) (leading f r)) s
    where
      by : (t : Bool) (n : ℕ) → cond t (suc n) 0 ≡ cond (not t) 0 (1 + n)
      by true n = omega arith
      by false n = refl

  leading_within : leading f s ≤ length s
  leading_within = rw leading_before (prefix_len-le-length _ s)

  leading_position : unwrap_or (position (λ b. not (f b)) s) (length s) ≡ leading f s
  leading_position = rw leading_before (by (position_or_len (λ b. not (f b)) s) (prefix_len-le-length _ s))
    where
      by : (p : ℕ) → p ≤ length s → unwrap_or (cond (ltb p (length s)) (Some p) None) (length s) ≡ p
      by p h = elim (dec_le (length s) p) [ yes k ↦ rw (le-ltb p (length s) k) (omega arith) | no k ↦ rw (lt-ltb p (length s) (omega arith)) ]

-- where those from a place on end
pub run_ends : (f : ℕ → Bool) (s : List ℕ) (from : ℕ) {r : Option ℕ} {n : ℕ} → from ≤ length s → r ≡ position (λ b. not (f b)) (take (length s - from) (drop from s)) → n ≡ unwrap_or r (length (take (length s - from) (drop from s))) → (from + n ≡ from + leading f (drop from s)) × (from ≤ from + n) × (from + n ≤ length s)
run_ends f s from {r} {n} h e g =
    let z : n ≡ leading f (drop from s) = g ∙ rw (e, part_rest from s) (leading_position f (drop from s)) in
    (rw z, omega arith, omega (arith, leading_within f (drop from s), length-drop from s))

-- the bytes in front of the first c are those that pass where c does not
pub lead_leading : (c : ℕ) (s : List ℕ) → lead c s ≡ leading (λ b. not (eqb b c)) s
unfolding lead leading
lead_leading c [] = refl
lead_leading c (b ∷ s) = go (eqb b c) (lead_leading c s)
  where
    go : (t : Bool) → lead c s ≡ leading (λ d. not (eqb d c)) s → cond t 0 (suc (lead c s)) ≡ cond (not t) (suc (leading (λ d. not (eqb d c)) s)) 0
    go true e = refl
    go false e = ap suc e

-- ---- the joined line at a place
joined_over : (hash : Bool) (m : Mode) (line : List ℕ) (i n : ℕ) → i ≤ length line → joined_from hash n m (get_or (byte "\n" ∷ line) i 0) (drop i line) ≡ joined_at hash m line (i + n)
joined_over hash m line i n h =
    let k : i < length (byte "\n" ∷ line) = omega arith in
    joined_skip hash n m (get_or (byte "\n" ∷ line) i 0) (drop i line)
    ∙ rw (← (drop-cons (byte "\n" ∷ line) i 0 k), get_or-drop i (byte "\n" ∷ line) n 0, drop-drop n i line)

two_on : (line : List ℕ) (i : ℕ) → drop 1 (drop (i + 1) line) ≡ drop (i + 2) line
two_on line i = let z : i + 1 + 1 ≡ i + 2 = omega arith in rw z at (drop-drop 1 (i + 1) line)

module _ (hash : Bool) (m : Mode) (line : List ℕ) (i : ℕ) where
  behind : get_or (byte "\n" ∷ line) (i + 1) 0 ≡ get_or line i 0
  behind = rw add-one

  pub at_byte : i < length line → joins_at (drop i line) ≡ false → joined_at hash m line i ≡ gives m (get_or line i 0) ∷ joined_at hash (mode_after m (get_or line i 0)) line (i + 1)
  at_byte h e =
      let f : joins (get_or line i 0) (drop (i + 1) line) ≡ false = rw (next line i h) at e in
      rw (next line i h, behind) (joined_step hash m (get_or (byte "\n" ∷ line) i 0) (get_or line i 0) (drop (i + 1) line) f)

  pub at_join : i < length line → joins_at (drop i line) ≡ true → joined_at hash m line i ≡ join_blank m (get_or (byte "\n" ∷ line) i 0) ++ joined_at hash (mode_joined hash m) line (i + 2 + leading blank (drop (i + 2) line))
  at_join h e =
      let f : joins (get_or line i 0) (drop (i + 1) line) ≡ true = rw (next line i h) at e in
      let k = leading blank (drop (i + 2) line) in
      let z : i + 1 + suc k ≡ i + 2 + k = omega arith in
      let g : joined_from hash (suc k) (mode_joined hash m) (get_or line i 0) (drop (i + 1) line) ≡ joined_at hash (mode_joined hash m) line (i + 2 + k) = rw (behind, z) at (joined_over hash (mode_joined hash m) line (i + 1) (suc k) (omega arith)) in
      rw (next line i h) (joined_join hash m (get_or (byte "\n" ∷ line) i 0) (get_or line i 0) (drop (i + 1) line) f ∙ rw (two_on line i, g))

  pub at_end_law : length line ≤ i → joined_at hash m line i ≡ []
  unfolding joined_from
  at_end_law h = rw (drop_of_length-le line)

-- ---- runs: bytes that pass join nothing, leave the mode, and each give one byte
pub record Steady (f : ℕ → Bool) (m : Mode) (g : ℕ → JoinedByte) : Type 0 where
  pub joinless : (b : ℕ) → f b ≡ true → is "\\" b ≡ false
  pub stays : (b : ℕ) → f b ≡ true → mode_after m b ≡ m
  pub mark : (b : ℕ) → f b ≡ true → gives m b ≡ g b

joined_run : (hash : Bool) {f : ℕ → Bool} {m : Mode} {g : ℕ → JoinedByte} → Steady f m g → (before : ℕ) (s : List ℕ) → joined_from hash 0 m before s ≡ map g (take (leading f s) s) ++ joined_from hash (leading f s) m before s
unfolding joined_from leading
joined_run hash w before [] = refl
joined_run hash {f} {m} {g} w before (b ∷ s) = go (f b) refl (joined_run hash w b s)
  where
    go : (t : Bool) → f b ≡ t → joined_from hash 0 m b s ≡ map g (take (leading f s) s) ++ joined_from hash (leading f s) m b s → joined_from hash 0 m before (b ∷ s) ≡ map g (take (cond t (suc (leading f s)) 0) (b ∷ s)) ++ joined_from hash (cond t (suc (leading f s)) 0) m before (b ∷ s)
    go true e r = joined_step hash m before b s (no_join b s (w.joinless b e)) ∙ rw (w.mark b e, w.stays b e, r)
    go false e r = refl

pub at_run : (hash : Bool) {f : ℕ → Bool} {m : Mode} {g : ℕ → JoinedByte} → Steady f m g → (line : List ℕ) (i : ℕ) → i ≤ length line → joined_at hash m line i ≡ map g (take (leading f (drop i line)) (drop i line)) ++ joined_at hash m line (i + leading f (drop i line))
at_run hash {f} {m} {g} w line i h = joined_run hash w (get_or (byte "\n" ∷ line) i 0) (drop i line) ∙ rw (joined_over hash m line i (leading f (drop i line)) h)

-- ---- indents
pub indented_run : (f : ℕ → Bool) → ((b : ℕ) → f b ≡ true → is "\\" b ≡ false) → (s : List ℕ) → indented s ≡ indented (drop (leading f s) s)
unfolding indented leading
indented_run f w [] = refl
indented_run f w (b ∷ s) = go (f b) refl (indented_run f w s)
  where
    go : (t : Bool) → f b ≡ t → indented s ≡ indented (drop (leading f s) s) → indented (b ∷ s) ≡ indented (drop (cond t (suc (leading f s)) 0) (b ∷ s))
    go true e r = rw (w b e) r
    go false e r = refl

-- a blank is one of two bytes
pub by_blank : (P : ℕ → Type 0) → P 32 → P 9 → (b : ℕ) → blank b ≡ true → P b
unfolding blank
by_blank P x y b e = elim (either_true (eqb b 32) (eqb b 9) e) [ inl f ↦ rw (eqb-true b 32 f) x | inr f ↦ rw (eqb-true b 9 f) y ]

pub blank_joinless : (b : ℕ) → blank b ≡ true → is "\\" b ≡ false
blank_joinless = by_blank (λ b. is "\\" b ≡ false) refl refl

newline_joinless : (s : List ℕ) → begins (is "\n") s ≡ true → indented s ≡ indented (drop 1 s)
unfolding indented
newline_joinless [] e = refl
newline_joinless (c ∷ s) e = let z : c ≡ 10 = eqb-true c 10 e in rw z

pub begins_leading : (f : ℕ → Bool) (s : List ℕ) → eqb (leading f s) 0 ≡ not (begins f s)
unfolding leading
begins_leading f [] = refl
begins_leading f (b ∷ s) = go (f b)
  where
    go : (t : Bool) → eqb (cond t (suc (leading f s)) 0) 0 ≡ not t
    go true = ne_eqb (suc (leading f s)) 0 (λ z. omega arith)
    go false = refl

module _ (line : List ℕ) (i : ℕ) where
  pub indented_byte : i < length line → joins_at (drop i line) ≡ false → indented (drop i line) ≡ indented (drop (i + 1) line)
  unfolding indented
  indented_byte h e = let f : joins (get_or line i 0) (drop (i + 1) line) ≡ false = rw (next line i h) at e in rw (next line i h, f)

  pub indented_join : i < length line → joins_at (drop i line) ≡ true → indented (drop i line) ≡ begins blank (drop (i + 2) line) && indented (drop (i + 2 + leading blank (drop (i + 2) line)) line)
  unfolding indented
  indented_join h e =
      let f : joins (get_or line i 0) (drop (i + 1) line) ≡ true = rw (next line i h) at e in
      let k = leading blank (drop (i + 2) line) in
      let n : indented (drop (i + 1) line) ≡ indented (drop (i + 2) line) = newline_joinless (drop (i + 1) line) (both_true (is "\\" (get_or line i 0)) (begins (is "\n") (drop (i + 1) line)) f).1 ∙ rw (two_on line i) in
      let r : indented (drop (i + 2) line) ≡ indented (drop (i + 2 + k) line) = indented_run blank blank_joinless (drop (i + 2) line) ∙ rw (drop-drop k (i + 2) line) in
      rw (next line i h, f, two_on line i, n, r)

  pub indented_end : length line ≤ i → indented (drop i line) ≡ true
  unfolding indented
  indented_end h = rw (drop_of_length-le line)
