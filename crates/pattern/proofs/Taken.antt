-- What a reading takes of the bytes stands before what it leaves, and of pieces alone it is their only expansion. Assumes nothing.
use Rattle.std.specs.Prelude.{None, Option, Some}
use mathlib.Core.Path.{◌≡◌, refl, sym, ap, ◌∙◌}
use mathlib.Core.Bool.{Bool, true, false, cond, ◌&&◌}
use mathlib.Core.List.{List, [], ◌∷◌, ◌++◌, append_assoc}
use Prim.Native.Nat.{ℕ, zero, suc, ◌+◌, ◌*◌}
use lib.Dec.{eqb}
use lib.ListN.{length}
use borrow.Author.Tests.{eqb-true}
use Rattle.text.specs.Parts.{Parts, part_at}
use Rattle.text.proofs.Laws.{pick_of, clash}
use Rattle.glob.specs.Set.{negates, good_set}
use Rattle.pattern.specs.declared.Syntax.{Syntax}
use Rattle.pattern.specs.declared.role.Role.{Role}
use Rattle.pattern.specs.declared.role.Role.TheVariants.{Opens, Stops, Stray, Begins}
use Rattle.pattern.specs.Tree.{Tree, empty, piece, list, or, expansions, has_sets, role_of, FirstPiece, escape_piece, set_piece, first_piece, TreeRead, parsed, malformed, bind, at_piece, at_byte, at_end, after_one, read_pattern, read_list, pattern_of}
use Rattle.pattern.specs.Contract.{only_pieces}

-- ---- a piece and what follows it are the bytes
abbrev Joins : List ℕ → Option FirstPiece → Type 0
Joins s None = Unit {0}
Joins s (Some q) = s ≡ q.written ++ q.rest

abbrev JoinsParts : ℕ → List ℕ → Option Parts → Type 0
JoinsParts c s None = Unit {0}
JoinsParts c s (Some q) = s ≡ q.front ++ c ∷ q.back

joins_parts : (c : ℕ) (s : List ℕ) → JoinsParts c s (part_at c s)
unfolding part_at
joins_parts c [] = tt
joins_parts c (b ∷ s) = go (eqb b c) refl (part_at c s) refl (joins_parts c s)
  where
    go : (t : Bool) → eqb b c ≡ t → (o : Option Parts) → part_at c s ≡ o → JoinsParts c s o → JoinsParts c (b ∷ s) (part_at c (b ∷ s))
    go true t o q h = rw t (ap (λ (x : ℕ). x ∷ s) (eqb-true b c t))
    go false t None q h = rw (t, q) tt
    go false t (Some x) q h = rw (t, q) (ap (◌∷◌ b) h)

joins_set : (s : List ℕ) (o : Option Parts) → JoinsParts 93 s o → Joins (91 ∷ s) (set_piece o)
joins_set s None h = tt
joins_set s (Some q) h = pick_of (Joins (91 ∷ s)) (good_set negates q.front) (ap (◌∷◌ 91) (h ∙ sym (append_assoc q.front (93 ∷ []) q.back))) tt

joins_escape : (s : List ℕ) → Joins (92 ∷ s) (escape_piece s)
joins_escape [] = tt
joins_escape (d ∷ s) = refl

joins_piece : (syntax : Syntax) (c : ℕ) (s : List ℕ) → Joins (c ∷ s) (first_piece syntax (c ∷ s))
unfolding first_piece
joins_piece syntax c s = go (has_sets syntax) (eqb c 92) refl (eqb c 91) refl
  where
    go : (h e : Bool) → eqb c 92 ≡ e → (b : Bool) → eqb c 91 ≡ b → Joins (c ∷ s) (cond (h && e) (escape_piece s) (cond (h && b) (set_piece (part_at 93 s)) (Some record { written = c ∷ []; rest = s })))
    go false e f b g = refl
    go true true f b g = rw (eqb-true c 92 f) (joins_escape s)
    go true false f true g = rw (eqb-true c 91 g) (joins_set s (part_at 93 s) (joins_parts 93 s))
    go true false f false g = refl

-- ---- a reading takes some bytes
abbrev Takes : List ℕ → TreeRead → Type 0
Takes s (parsed t r) = (w : List ℕ) × (s ≡ w ++ r)
Takes s malformed = Unit {0}

-- and those of pieces alone are their only expansion
abbrev pub TakesFlat : List ℕ → TreeRead → Type 0
TakesFlat s (parsed t r) = (w : List ℕ) × (s ≡ w ++ r) × (only_pieces t ≡ true → expansions t ≡ w ∷ [])
TakesFlat s malformed = Unit {0}

module _ (rp rl : List ℕ → TreeRead) (hp : (t : List ℕ) → TakesFlat t (rp t)) (hl : (t : List ℕ) → Takes t (rl t)) where
  takes_then : (a : Tree) (c : ℕ) (s w r : List ℕ) (o : TreeRead) → s ≡ w ++ r → TakesFlat r o → TakesFlat (c ∷ s) (bind o (λ t u. parsed (list a t) u))
  unfolding only_pieces
  takes_then a c s w r (parsed t u) e h = (c ∷ (w ++ h.0), ap (◌∷◌ c) (e ∙ ap (◌++◌ w) h.1 ∙ sym (append_assoc w h.0 u)), λ f. clash cc)
  takes_then a c s w r malformed e h = tt

  takes_opens : (c : ℕ) (s : List ℕ) (o : TreeRead) → Takes s o → TakesFlat (c ∷ s) (bind o (λ a r. bind (rp r) (λ t u. parsed (list a t) u)))
  takes_opens c s (parsed a r) h = takes_then a c s h.0 r (rp r) h.1 (hp r)
  takes_opens c s malformed h = tt

  takes_put : (s w r : List ℕ) (o : TreeRead) → s ≡ w ++ r → TakesFlat r o → TakesFlat s (bind o (λ t u. parsed (piece w t) u))
  unfolding only_pieces expansions
  takes_put s w r (parsed t u) e h = (w ++ h.0, e ∙ ap (◌++◌ w) h.1 ∙ sym (append_assoc w h.0 u), λ f. rw (h.2 f))
  takes_put s w r malformed e h = tt

  takes_at : (s : List ℕ) (o : Option FirstPiece) → Joins s o → TakesFlat s (at_piece rp o)
  takes_at s None h = tt
  takes_at s (Some q) h = takes_put s q.written q.rest (rp q.rest) h (hp q.rest)

  takes_byte : (m : Role) (syntax : Syntax) (c : ℕ) (s : List ℕ) → TakesFlat (c ∷ s) (at_byte rp rl m syntax c s)
  unfolding expansions
  takes_byte Opens syntax c s = takes_opens c s (rl s) (hl s)
  takes_byte Stops syntax c s = ([], refl, λ f. refl)
  takes_byte Stray syntax c s = tt
  takes_byte Begins syntax c s = takes_at (c ∷ s) (first_piece syntax (c ∷ s)) (joins_piece syntax c s)

  takes_or : (a : Tree) (c : ℕ) (s w r : List ℕ) (o : TreeRead) → s ≡ w ++ c ∷ r → Takes r o → Takes s (bind o (λ b u. parsed (or a b) u))
  takes_or a c s w r (parsed b u) e h = (w ++ c ∷ h.0, e ∙ ap (λ (x : List ℕ). w ++ c ∷ x) h.1 ∙ sym (append_assoc w (c ∷ h.0) u))
  takes_or a c s w r malformed e h = tt

  takes_end : (b : Bool) (a : Tree) (c : ℕ) (s w r : List ℕ) → s ≡ w ++ c ∷ r → Takes s (at_end rl b a r)
  takes_end true a c s w r e = (w ++ c ∷ [], e ∙ sym (append_assoc w (c ∷ []) r))
  takes_end false a c s w r e = takes_or a c s w r (rl r) e (hl r)

  takes_after : (i : Bool) (a : Tree) (s w r : List ℕ) → s ≡ w ++ r → Takes s (after_one rl i a r)
  takes_after true a s w [] e = tt
  takes_after false a s w [] e = (w, e)
  takes_after true a s w (c ∷ r) e = takes_end (eqb c 125) a c s w r e
  takes_after false a s w (c ∷ r) e = takes_end (eqb c 125) a c s w r e

  takes_list : (i : Bool) (s : List ℕ) (o : TreeRead) → TakesFlat s o → Takes s (bind o (λ a r. after_one rl i a r))
  takes_list i s (parsed a r) h = takes_after i a s h.0 r h.1
  takes_list i s malformed h = tt

takes_empty : TakesFlat [] (parsed empty [])
unfolding expansions
takes_empty = ([], refl, λ f. refl)

mutual
  unfolding read_pattern

  takes_read : (n : ℕ) (syntax : Syntax) (inside : Bool) (s : List ℕ) → TakesFlat s (read_pattern n syntax inside s)
  takes_read zero syntax inside s = tt
  takes_read (suc n) syntax inside [] = takes_empty
  takes_read (suc n) syntax inside (c ∷ s) = takes_byte _ _ (λ t. takes_read n syntax inside t) (λ t. takes_lists n syntax true t) (role_of syntax inside c) syntax c s

  takes_lists : (n : ℕ) (syntax : Syntax) (inside : Bool) (s : List ℕ) → Takes s (read_list n syntax inside s)
  takes_lists zero syntax inside s = tt
  takes_lists (suc n) syntax inside s = takes_list (λ t. read_pattern n syntax inside t) (λ t. read_list n syntax inside t) (λ t. takes_read n syntax inside t) (λ t. takes_lists n syntax inside t) inside s (read_pattern n syntax inside s) (takes_read n syntax inside s)

pub takes_pattern : (syntax : Syntax) (inside : Bool) (s : List ℕ) → TakesFlat s (pattern_of syntax inside s)
unfolding pattern_of
takes_pattern syntax inside s = takes_read (2 * length s + 1) syntax inside s
