-- Enough steps are enough: how many more there are does not matter. So the readers call each other without a count. Assumes nothing.
use Rattle.std.specs.Prelude.{None, Option, Some}
use mathlib.Core.Path.{◌≡◌, refl}
use mathlib.Core.Bool.{Bool, true, false, ◌&&◌}
use mathlib.Core.List.{List, [], ◌∷◌}
use Prim.Native.Nat.{ℕ, zero, suc, ◌+◌, ◌*◌, ◌≤◌, ◌<◌}
use native.Mathlib.Omega.{arith}
use lib.Dec.{eqb}
use lib.ListN.{length, length-append}
use Rattle.text.proofs.Laws.{pick_of}
use Rattle.pattern.specs.declared.Syntax.{Syntax}
use Rattle.pattern.specs.declared.role.Role.{Role}
use Rattle.pattern.specs.declared.role.Role.TheVariants.{Opens, Stops, Stray, Begins}
use Rattle.text.specs.Parts.{Parts, part_at}
use Rattle.glob.specs.Set.{negates, good_set}
use Rattle.pattern.specs.Tree.{Tree, empty, has_sets, role_of, FirstPiece, escape_piece, set_piece, first_piece, TreeRead, parsed, malformed, bind, at_piece, at_byte, at_end, after_one, read_pattern, read_list, pattern_of, list_of}

-- ---- a piece and the bytes behind it are no more than there were
abbrev RoomParts : ℕ → Option Parts → Type 0
RoomParts n None = Unit {0}
RoomParts n (Some q) = length q.front + suc (length q.back) ≤ n

abbrev pub RoomPiece : ℕ → Option FirstPiece → Type 0
RoomPiece n None = Unit {0}
RoomPiece n (Some c) = (0 < length c.written) × (length c.written + length c.rest ≤ n)

room_parts : (c : ℕ) (s : List ℕ) → RoomParts (length s) (part_at c s)
unfolding part_at
room_parts c [] = tt
room_parts c (b ∷ s) = go (eqb b c) refl (part_at c s) refl (room_parts c s)
  where
    go : (t : Bool) → eqb b c ≡ t → (o : Option Parts) → part_at c s ≡ o → RoomParts (length s) o → RoomParts (suc (length s)) (part_at c (b ∷ s))
    go true t o q h = rw t (omega arith)
    go false t None q h = rw (t, q) tt
    go false t (Some x) q h = rw (t, q) (omega arith)

room_set : (n : ℕ) (o : Option Parts) → RoomParts n o → RoomPiece (suc n) (set_piece o)
room_set n None h = tt
room_set n (Some q) h = pick_of (RoomPiece (suc n)) (good_set negates q.front) (omega arith, omega (arith, length-append q.front (93 ∷ []))) tt

room_escape : (s : List ℕ) → RoomPiece (suc (length s)) (escape_piece s)
room_escape [] = tt
room_escape (d ∷ s) = (omega arith, omega arith)

pub room_piece : (syntax : Syntax) (c : ℕ) (s : List ℕ) → RoomPiece (suc (length s)) (first_piece syntax (c ∷ s))
unfolding first_piece
room_piece syntax c s =
    pick_of (RoomPiece (suc (length s))) (has_sets syntax && eqb c 92) (room_escape s)
    (pick_of (RoomPiece (suc (length s))) (has_sets syntax && eqb c 91) (room_set _ (part_at 93 s) (room_parts 93 s)) (omega arith, omega arith))

-- ---- a reading leaves no more bytes than it got
abbrev Short : ℕ → TreeRead → Type 0
Short n (parsed t r) = length r ≤ n
Short n malformed = Unit {0}

abbrev ShortPiece : ℕ → Option FirstPiece → Type 0
ShortPiece n None = Unit {0}
ShortPiece n (Some c) = length c.rest ≤ n

short_piece : (syntax : Syntax) (c : ℕ) (s : List ℕ) (n : ℕ) → length s ≤ n → ShortPiece n (first_piece syntax (c ∷ s))
short_piece syntax c s n h = go (first_piece syntax (c ∷ s)) (room_piece syntax c s)
  where
    go : (o : Option FirstPiece) → RoomPiece (suc (length s)) o → ShortPiece n o
    go None g = tt
    go (Some x) g = omega (arith, g.0, g.1)

short_le : (m n : ℕ) (o : TreeRead) → m ≤ n → Short m o → Short n o
short_le m n (parsed t r) h s = omega arith
short_le m n malformed h s = tt

short_bind : (m n : ℕ) (o : TreeRead) (f : Tree → List ℕ → TreeRead) → Short m o → ((t : Tree) (r : List ℕ) → length r ≤ m → Short n (f t r)) → Short n (bind o f)
short_bind m n (parsed t r) f s h = h t r s
short_bind m n malformed f s h = tt

module _ (rp : List ℕ → TreeRead) (rl : List ℕ → TreeRead) (hp : (t : List ℕ) → Short (length t) (rp t)) (hl : (t : List ℕ) → Short (length t) (rl t)) where
  short_at : (n : ℕ) (o : Option FirstPiece) → ShortPiece n o → Short n (at_piece rp o)
  short_at n None h = tt
  short_at n (Some c) h = short_bind _ _ (rp c.rest) _ (hp c.rest) (λ t r g. omega arith)

  short_byte : (m : Role) (syntax : Syntax) (c : ℕ) (s : List ℕ) → Short (suc (length s)) (at_byte rp rl m syntax c s)
  short_byte Opens syntax c s = short_bind _ _ (rl s) _ (hl s) (λ a r h. short_bind _ _ (rp r) _ (hp r) (λ t u g. omega arith))
  short_byte Stops syntax c s = omega arith
  short_byte Stray syntax c s = tt
  short_byte Begins syntax c s = short_le _ _ (at_piece rp (first_piece syntax (c ∷ s))) (omega arith) (short_at _ (first_piece syntax (c ∷ s)) (short_piece syntax c s (length s) (omega arith)))

  short_end : (b : Bool) (a : Tree) (t : List ℕ) → Short (length t) (at_end rl b a t)
  short_end true a t = omega arith
  short_end false a t = short_bind _ _ (rl t) _ (hl t) (λ p u g. g)

  short_after : (inside : Bool) (a : Tree) (r : List ℕ) → Short (length r) (after_one rl inside a r)
  short_after true a [] = tt
  short_after false a [] = omega arith
  short_after true a (c ∷ t) = short_le _ _ (at_end rl (eqb c 125) a t) (omega arith) (short_end (eqb c 125) a t)
  short_after false a (c ∷ t) = short_le _ _ (at_end rl (eqb c 125) a t) (omega arith) (short_end (eqb c 125) a t)

mutual
  unfolding read_pattern

  pub short_pattern : (k : ℕ) (syntax : Syntax) (inside : Bool) (s : List ℕ) → Short (length s) (read_pattern k syntax inside s)
  short_pattern zero syntax inside s = tt
  short_pattern (suc n) syntax inside [] = omega arith
  short_pattern (suc n) syntax inside (c ∷ s) = short_byte _ _ (λ t. short_pattern n syntax inside t) (λ t. short_list n syntax true t) (role_of syntax inside c) syntax c s

  pub short_list : (k : ℕ) (syntax : Syntax) (inside : Bool) (s : List ℕ) → Short (length s) (read_list k syntax inside s)
  short_list zero syntax inside s = tt
  short_list (suc n) syntax inside s = short_bind _ _ (read_pattern n syntax inside s) _ (short_pattern n syntax inside s) (λ a r h. short_le _ _ (after_one (λ t. read_list n syntax inside t) inside a r) h (short_after (λ t. read_pattern n syntax inside t) (λ t. read_list n syntax inside t) (λ t. short_pattern n syntax inside t) (λ t. short_list n syntax inside t) inside a r))

-- ---- readers that agree on short lists read alike
bind_same : (m : ℕ) (o o' : TreeRead) (f g : Tree → List ℕ → TreeRead) → Short m o → o ≡ o' → ((t : Tree) (r : List ℕ) → length r ≤ m → f t r ≡ g t r) → bind o f ≡ bind o' g
bind_same m (parsed t r) o' f g s e h = rw (← e) (h t r s)
bind_same m malformed o' f g s e h = rw (← e)

module _ (rp rp' : List ℕ → TreeRead) (rl rl' : List ℕ → TreeRead) (n : ℕ)
    (hp : (t : List ℕ) → length t ≤ n → rp t ≡ rp' t) (hl : (t : List ℕ) → length t ≤ n → rl t ≡ rl' t)
    (shl : (t : List ℕ) → Short (length t) (rl t)) where
  same_at : (o : Option FirstPiece) → ShortPiece n o → at_piece rp o ≡ at_piece rp' o
  same_at None h = refl
  same_at (Some c) h = rw (hp c.rest h)

  same_byte : (m : Role) (syntax : Syntax) (c : ℕ) (s : List ℕ) → length s ≤ n → at_byte rp rl m syntax c s ≡ at_byte rp' rl' m syntax c s
  same_byte Opens syntax c s h = bind_same _ (rl s) _ _ _ (shl s) (hl s h) (λ a r g. rw (hp r (omega arith)))
  same_byte Stops syntax c s h = refl
  same_byte Stray syntax c s h = refl
  same_byte Begins syntax c s h = same_at (first_piece syntax (c ∷ s)) (short_piece syntax c s n h)

same_end : (rl rl' : List ℕ → TreeRead) (b : Bool) (a : Tree) (t : List ℕ) → rl t ≡ rl' t → at_end rl b a t ≡ at_end rl' b a t
same_end rl rl' true a t h = refl
same_end rl rl' false a t h = rw h

same_after : (rl rl' : List ℕ → TreeRead) (n : ℕ) → ((t : List ℕ) → length t < n → rl t ≡ rl' t) → (inside : Bool) (a : Tree) (r : List ℕ) → length r ≤ n → after_one rl inside a r ≡ after_one rl' inside a r
same_after rl rl' n hl true a [] h = refl
same_after rl rl' n hl false a [] h = refl
same_after rl rl' n hl true a (c ∷ t) h = same_end rl rl' (eqb c 125) a t (hl t (omega arith))
same_after rl rl' n hl false a (c ∷ t) h = same_end rl rl' (eqb c 125) a t (hl t (omega arith))

-- ---- enough is enough
mutual
  unfolding read_pattern

  pub enough_pattern : (k l : ℕ) (syntax : Syntax) (inside : Bool) (s : List ℕ) → 2 * length s < k → 2 * length s < l → read_pattern k syntax inside s ≡ read_pattern l syntax inside s
  enough_pattern zero l syntax inside s h g = absurd (omega arith)
  enough_pattern (suc k) zero syntax inside s h g = absurd (omega arith)
  enough_pattern (suc k) (suc l) syntax inside [] h g = refl
  enough_pattern (suc k) (suc l) syntax inside (c ∷ s) h g = same_byte _ _ _ _ (length s) (λ t f. enough_pattern k l syntax inside t (omega arith) (omega arith)) (λ t f. enough_list k l syntax true t (omega arith) (omega arith)) (λ t. short_list k syntax true t) (role_of syntax inside c) syntax c s (omega arith)

  pub enough_list : (k l : ℕ) (syntax : Syntax) (inside : Bool) (s : List ℕ) → 2 * length s + 1 < k → 2 * length s + 1 < l → read_list k syntax inside s ≡ read_list l syntax inside s
  enough_list zero l syntax inside s h g = absurd (omega arith)
  enough_list (suc k) zero syntax inside s h g = absurd (omega arith)
  enough_list (suc k) (suc l) syntax inside s h g = bind_same _ (read_pattern k syntax inside s) _ _ _ (short_pattern k syntax inside s) (enough_pattern k l syntax inside s (omega arith) (omega arith)) (λ a r f. same_after _ _ (length s) (λ t e. enough_list k l syntax inside t (omega arith) (omega arith)) inside a r f)

-- ---- so the readers call each other
module _ (syntax : Syntax) (inside : Bool) where
  pub pattern_none : pattern_of syntax inside [] ≡ parsed empty []
  unfolding pattern_of read_pattern
  pattern_none = refl

  pub pattern_first : (c : ℕ) (s : List ℕ) → pattern_of syntax inside (c ∷ s) ≡ at_byte (pattern_of syntax inside) (list_of syntax true) (role_of syntax inside c) syntax c s
  unfolding pattern_of list_of read_pattern
  pattern_first c s =
      let z : 2 * suc (length s) + 1 ≡ suc (2 * length s + 2) = omega arith in
      rw z (same_byte (λ t. read_pattern (2 * length s + 2) syntax inside t) (λ t. read_pattern (2 * length t + 1) syntax inside t) (λ t. read_list (2 * length s + 2) syntax true t) (λ t. read_list (2 * length t + 2) syntax true t) (length s)
      (λ t h. enough_pattern (2 * length s + 2) (2 * length t + 1) syntax inside t (omega arith) (omega arith))
      (λ t h. enough_list (2 * length s + 2) (2 * length t + 2) syntax true t (omega arith) (omega arith))
      (λ t. short_list (2 * length s + 2) syntax true t) (role_of syntax inside c) syntax c s (omega arith))

  pub list_first : (s : List ℕ) → list_of syntax inside s ≡ bind (pattern_of syntax inside s) (λ a r. after_one (list_of syntax inside) inside a r)
  unfolding pattern_of list_of read_pattern
  list_first s =
      let z : 2 * length s + 2 ≡ suc (2 * length s + 1) = omega arith in
      rw z (bind_same _ (read_pattern (2 * length s + 1) syntax inside s) _ _ _ (short_pattern (2 * length s + 1) syntax inside s) refl
      (λ a r f. same_after (λ t. read_list (2 * length s + 1) syntax inside t) (λ t. read_list (2 * length t + 2) syntax inside t) (length s) (λ t e. enough_list (2 * length s + 1) (2 * length t + 2) syntax inside t (omega arith) (omega arith)) inside a r f))
