-- Patterns and alternatives without braces: told from their trees, and their own only expansion. Assumes nothing.
use Rattle.std.specs.Prelude.{None, Ok, Option, Some}
use mathlib.Core.Path.{◌≡◌, refl, sym, ap, ◌∙◌}
use mathlib.Core.Bool.{Bool, true, false}
use mathlib.Core.List.{List, [], ◌∷◌, ◌++◌, append-nil}
use Prim.Native.Nat.{ℕ, ◌+◌, ◌-◌, ◌≤◌, ◌<◌, min}
use native.Mathlib.Omega.{arith}
use native.Mathlib.Decide.{dec_le}
use borrow.Author.Tests.{ne_eqb, le-leb, lt-leb}
use lib.Dec.{leb}
use lib.ListN.{length, take, drop, get_or, drop_of_length-le, length-drop, length-append}
use lib.Seq.{drop-drop, drop-append_seam, take-append_seam}
use Rattle.text.proofs.Laws.{next, clash}
use Rattle.pattern.specs.declared.Syntax.{Syntax}
use Rattle.pattern.specs.declared.run.Run.TheVariants.{Opens, Ends}
use Rattle.pattern.specs.declared.alternatives.Alternative.{Alternative}
use Rattle.pattern.specs.declared.alternatives.Alternative.TheVariants.{Flat, Braced}
use Rattle.pattern.specs.Tree.{Tree, empty, piece, list, or, depth, number, fits, TreeRead, parsed, malformed, bind, pattern_of, list_of, tree_in, tree_of, expanded}
use Rattle.pattern.specs.Contract.{opening, with_pieces, RunAt, Tells, expansions_in, EndsBefore, AlternativeAt, only_pieces, flat_tree, is_flat, alternative_parsed, alternative_from, read_to}
use Rattle.pattern.proofs.TreeLaws.{list_first}
use Rattle.pattern.proofs.Expanding.{told, wrapped, pieces_are, pieces_none}
use Rattle.pattern.proofs.Alone.{never_closes}
use Rattle.pattern.proofs.WholeLaws.{expanded_good}
use Rattle.pattern.proofs.Taken.{TakesFlat, takes_pattern}

-- ---- a tree of pieces alone
only_depth : (t : Tree) → only_pieces t ≡ true → depth t ≡ 0
unfolding only_pieces depth
only_depth empty e = refl
only_depth (piece b t) e = only_depth t e
only_depth (list a t) e = clash cc
only_depth (or a b) e = clash cc

only_number : (t : Tree) → only_pieces t ≡ true → number t ≡ 1
unfolding only_pieces number
only_number empty e = refl
only_number (piece b t) e = only_number t e
only_number (list a t) e = clash cc
only_number (or a b) e = clash cc

only_fits : (t : Tree) → only_pieces t ≡ true → fits t ≡ true
unfolding fits
only_fits t e = rw (only_depth t e, only_number t e)

only_wrapped : (ws : List (List ℕ)) (t : Tree) → only_pieces (wrapped ws t) ≡ only_pieces t
unfolding only_pieces
only_wrapped [] t = refl
only_wrapped (w ∷ ws) t = only_wrapped ws t

-- a reading whose tree has braces
abbrev HasBraces : TreeRead → Type 0
HasBraces (parsed t r) = only_pieces t ≡ false
HasBraces malformed = Unit {0}

braces_wrapped : (ws : List (List ℕ)) (o : TreeRead) → HasBraces o → HasBraces (with_pieces ws o)
braces_wrapped ws (parsed t r) h = rw (pieces_are ws t r) (only_wrapped ws t ∙ h)
braces_wrapped ws malformed h = rw (pieces_none ws) tt

braces_opening : (syntax : Syntax) (inside : Bool) (s : List ℕ) → HasBraces (opening syntax inside s)
unfolding opening only_pieces
braces_opening syntax inside s = go (list_of syntax true s)
  where
    pair : (a : Tree) (o : TreeRead) → HasBraces (bind o (λ t u. parsed (list a t) u))
    pair a (parsed t u) = refl
    pair a malformed = tt

    go : (o : TreeRead) → HasBraces (bind o (λ a r. bind (pattern_of syntax inside r) (λ t u. parsed (list a t) u)))
    go (parsed a r) = pair a (pattern_of syntax inside r)
    go malformed = tt

-- ---- what a run tells of the alternative that it begins
module _ (syntax : Syntax) (p : List ℕ) (at : ℕ) where
  run_braces : (e : ℕ) → RunAt syntax false p at (Some (Opens e)) → HasBraces (pattern_of syntax false (drop at p))
  run_braces e w = rw w.reads (braces_wrapped w.pieces (opening syntax false (drop (e + 1) p)) (braces_opening syntax false (drop (e + 1) p)))

  run_flat : (e : ℕ) → RunAt syntax false p at (Some (Ends e)) → (t : Tree) × (pattern_of syntax false (drop at p) ≡ parsed t (drop e p)) × (only_pieces t ≡ true)
  unfolding only_pieces
  run_flat e w = (wrapped w.pieces empty, w.reads ∙ pieces_are w.pieces empty (drop e p), only_wrapped w.pieces empty)

  run_malformed : RunAt syntax false p at None → pattern_of syntax false (drop at p) ≡ malformed
  run_malformed w = w.reads ∙ pieces_none w.pieces

-- ---- a whole pattern
module _ (syntax : Syntax) (p : List ℕ) where
  flat_read : (t : Tree) → pattern_of syntax false p ≡ parsed t [] → tree_of syntax p ≡ Some t
  unfolding tree_of
  flat_read t q = rw (list_first syntax false p, q)

  flat_parted : (t : Tree) (c : ℕ) (r : List ℕ) → pattern_of syntax false p ≡ parsed t (c ∷ r) → false ≡ is_flat syntax p
  unfolding is_flat tree_of only_pieces
  flat_parted t c r q = rw (list_first syntax false p, q, ne_eqb c 125 (never_closes syntax p t c r q)) (go (list_of syntax false r))
    where
      go : (o : TreeRead) → false ≡ flat_tree (tree_in (bind o (λ b u. parsed (or t b) u)))
      go (parsed b u) = refl
      go malformed = refl

  flat_malformed : pattern_of syntax false p ≡ malformed → false ≡ is_flat syntax p
  unfolding is_flat tree_of
  flat_malformed q = rw (list_first syntax false p, q)

  flat_one : (t : Tree) → pattern_of syntax false p ≡ parsed t [] → only_pieces t ≡ is_flat syntax p
  unfolding is_flat
  flat_one t q = rw (flat_read t q)

  -- a flat pattern is its own only expansion
  pub flat_alone : is_flat syntax p ≡ true → expanded syntax p ≡ Ok (p ∷ [])
  flat_alone e = go (pattern_of syntax false p) refl (takes_pattern syntax false p)
    where
      go : (o : TreeRead) → pattern_of syntax false p ≡ o → TakesFlat p o → expanded syntax p ≡ Ok (p ∷ [])
      go (parsed t []) q h =
          let f : only_pieces t ≡ true = flat_one t q ∙ e in
          let z : p ≡ h.0 = h.1 ∙ append-nil h.0 in
          expanded_good syntax p t (flat_read t q) (only_fits t f) ∙ ap Ok (h.2 f ∙ ap (λ (x : List ℕ). x ∷ []) (sym z))
      go (parsed t (c ∷ r)) q h = let f = flat_parted t c r q in clash cc
      go malformed q h = let f = flat_malformed q in clash cc

  -- ---- the answer of `is_flat`
  pub flat_opens : (e : ℕ) → RunAt syntax false p 0 (Some (Opens e)) → false ≡ is_flat syntax p
  flat_opens e w = go (pattern_of syntax false p) refl (run_braces syntax p 0 e w)
    where
      go : (o : TreeRead) → pattern_of syntax false p ≡ o → HasBraces o → false ≡ is_flat syntax p
      go (parsed t []) q h = sym h ∙ flat_one t q
      go (parsed t (c ∷ r)) q h = flat_parted t c r q
      go malformed q h = flat_malformed q

  pub flat_ends : (e : ℕ) → RunAt syntax false p 0 (Some (Ends e)) → leb (length p) e ≡ is_flat syntax p
  flat_ends e w = elim (dec_le (length p) e) [ yes h ↦ whole h | no h ↦ parted (omega arith) ]
    where
      whole : length p ≤ e → leb (length p) e ≡ is_flat syntax p
      whole h = let f = run_flat syntax p 0 e w in le-leb _ _ h ∙ sym f.2 ∙ flat_one f.0 (f.1 ∙ rw (drop_of_length-le p h))

      parted : e < length p → leb (length p) e ≡ is_flat syntax p
      parted h = let f = run_flat syntax p 0 e w in lt-leb _ _ h ∙ flat_parted f.0 (get_or p e 0) (drop (e + 1) p) (f.1 ∙ rw (next p e h))

  pub flat_fails : RunAt syntax false p 0 None → false ≡ is_flat syntax p
  flat_fails w = flat_malformed (run_malformed syntax p 0 w)

-- ---- an alternative
parsed_flat : (size e : ℕ) (t : Tree) (r : List ℕ) → only_pieces t ≡ true → size - length r ≡ e → Some (Flat e) ≡ alternative_parsed size (parsed t r)
parsed_flat size e t r f z = rw (f, z)

parsed_braced : (size e n : ℕ) (t : Tree) (r : List ℕ) → only_pieces t ≡ false → size - length r ≡ e → n ≡ min (number t) 65 → Some (Braced e n) ≡ alternative_parsed size (parsed t r)
parsed_braced size e n t r f z k = rw (f, z, k)

module _ (syntax : Syntax) (p : List ℕ) (at : ℕ) where
  pub past_end : length p < at → None ≡ alternative_from syntax p at
  unfolding alternative_from
  past_end h = rw (lt-leb _ _ h)

  module _ (g : at ≤ length p) where
    from_read : {o : TreeRead} → pattern_of syntax false (drop at p) ≡ o → alternative_parsed (length p) o ≡ alternative_from syntax p at
    unfolding alternative_from
    from_read q = rw (le-leb _ _ g, q)

    pub flat_from : (e : ℕ) → RunAt syntax false p at (Some (Ends e)) → Some (Flat e) ≡ alternative_from syntax p at
    flat_from e w =
        let f = run_flat syntax p at e w in
        let z : length p - length (drop e p) ≡ e = omega (arith, length-drop e p, w.spans.high) in
        parsed_flat (length p) e f.0 (drop e p) f.2 z ∙ from_read f.1

    pub braced_from : (e to d n : ℕ) → RunAt syntax false p at (Some (Opens e)) → Tells p at (read_to to d n) (pattern_of syntax false (drop at p)) → Some (Braced to n) ≡ alternative_from syntax p at
    braced_from e to d n w v =
        let f = told _ _ _ _ _ _ v in
        let b : only_pieces f.tree ≡ false = rw f.is at (run_braces syntax p at e w) in
        let z : length p - length (drop to p) ≡ to = omega (arith, length-drop to p, v.within.high) in
        parsed_braced (length p) to n f.tree (drop to p) b z f.count ∙ from_read f.is

    pub malformed_from : pattern_of syntax false (drop at p) ≡ malformed → None ≡ alternative_from syntax p at
    malformed_from q = from_read q

    pub fails_from : RunAt syntax false p at None → None ≡ alternative_from syntax p at
    fails_from w = malformed_from (run_malformed syntax p at w)

    -- what it tells of the reading
    pub alternative_told : {a : Option Alternative} → a ≡ alternative_from syntax p at → AlternativeAt p at a (pattern_of syntax false (drop at p))
    unfolding expansions_in
    alternative_told {a} e = go (pattern_of syntax false (drop at p)) refl (takes_pattern syntax false (drop at p))
      where
        ends : (t : Tree) (r : List ℕ) → pattern_of syntax false (drop at p) ≡ parsed t r → (w : List ℕ) → drop at p ≡ w ++ r → EndsBefore p at (length p - length r) (pattern_of syntax false (drop at p)) × (take (length p - length r - at) (drop at p) ≡ w)
        ends t r q w h =
            let s : length p - at ≡ length w + length r = sym (length-drop at p) ∙ ap length h ∙ length-append w r in
            let k : at + length w ≡ length p - length r = omega arith in
            let m : length p - length r - at ≡ length w = omega arith in
            let d : drop (length p - length r) p ≡ r = rw (← k) (sym (drop-drop (length w) at p) ∙ ap (drop (length w)) h ∙ drop-append_seam w r) in
            (record { tree = t; is = q ∙ rw d; low = omega arith; high = omega arith }, rw (m, h) (take-append_seam w r))

        by : (t : Tree) (r : List ℕ) → pattern_of syntax false (drop at p) ≡ parsed t r → TakesFlat (drop at p) (parsed t r) → (b : Bool) → only_pieces t ≡ b → AlternativeAt p at a (pattern_of syntax false (drop at p))
        by t r q h true f = let v = ends t r q h.0 h.1 in rw (e ∙ sym (from_read q) ∙ sym (parsed_flat (length p) _ t r f refl)) (v.0, rw (q, v.1) (h.2 f))
        by t r q h false f = let v = ends t r q h.0 h.1 in rw (e ∙ sym (from_read q) ∙ sym (parsed_braced (length p) _ _ t r f refl refl)) (v.0, refl)

        go : (o : TreeRead) → pattern_of syntax false (drop at p) ≡ o → TakesFlat (drop at p) o → AlternativeAt p at a (pattern_of syntax false (drop at p))
        go (parsed t r) q h = by t r q h (only_pieces t) refl
        go malformed q h = rw (e ∙ sym (from_read q)) q
