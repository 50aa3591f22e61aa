-- What only contracts and proofs cite: the answers of the functions hold places and counts, those of the definitions lists and trees.
use Rattle.std.specs.Prelude.{ℕ, ◌+◌, ◌-◌, ◌/◌, ◌%◌, ◌≤◌, ◌<◌, min, ◌≡◌, Bool, true, false, cond, List, [], ◌∷◌, ◌++◌, leb, ltb, length, drop, take, get_or, None, Option, Some}
use Rattle.text.specs.Parts.{part_at}
use Rattle.pattern.specs.Tree.{Tree, empty, piece, list, or, depth, number, expansions, FirstPiece, set_piece, first_piece, TreeRead, parsed, malformed, bind, pattern_of, list_of, tree_of}
use Rattle.pattern.specs.Whole.{expansions_of}
use Rattle.pattern.specs.declared.Syntax.{Syntax}
use Rattle.pattern.specs.declared.Pattern.{Pattern}
use Rattle.pattern.specs.declared.run.Run.{Run}
use Rattle.pattern.specs.declared.run.Run.TheVariants.{Opens, Ends}
use Rattle.pattern.specs.declared.braces.ListRead.{ListRead}
use Rattle.pattern.specs.declared.alternatives.Alternative.{Alternative}
use Rattle.pattern.specs.declared.alternatives.Alternative.TheVariants.{Flat, Braced}

-- ---- a whole pattern

-- the size of a tree: its depth, and its number of expansions up to 64, or 65 for more
unfoldable pub size_of : Tree → Pattern
size_of t = record { depth = depth t; number = min (number t) 65 }

abbrev pub shape_in : Option Tree → Option Pattern
shape_in None = None
shape_in (Some t) = Some (size_of t)

-- whether a pattern is well formed, and its size
unfoldable pub shape_of : Syntax → List ℕ → Option Pattern
shape_of syntax p = shape_in (tree_of syntax p)

-- the k-th brace-free expansion, counted from 0; no bytes where there is none
unfoldable pub expansion_at : Syntax → List ℕ → ℕ → List ℕ
expansion_at syntax p k = get_or (expansions_of syntax p) k []

-- a pattern has so many expansions, and so a k-th one
pub record HasExpansion (syntax : Syntax) (p : List ℕ) (number k : ℕ) : Type 0 where
  pub count : number ≡ length (expansions_of syntax p)
  pub below : k < number

-- a tree of pieces alone
unfoldable pub only_pieces : Tree → Bool
only_pieces empty = true
only_pieces (piece b t) = only_pieces t
only_pieces (list a t) = false
only_pieces (or a b) = false

abbrev pub flat_tree : Option Tree → Bool
flat_tree None = false
flat_tree (Some t) = only_pieces t

-- whether a pattern has no brace and no comma that parts; a malformed one is not flat
unfoldable pub is_flat : Syntax → List ℕ → Bool
is_flat syntax p = flat_tree (tree_of syntax p)

-- ---- one piece

-- the piece of p from `at` on that an answer tells
abbrev pub piece_in : List ℕ → ℕ → Option ℕ → Option FirstPiece
piece_in p at (Some next) = Some record { written = take (next - at) (drop at p); rest = drop next p }
piece_in p at None = None

-- the place told is behind `at`
abbrev pub Ahead : List ℕ → ℕ → Option ℕ → Type 0
Ahead p at (Some next) = (at < next) × (next ≤ length p)
Ahead p at None = Unit {0}

-- an answer tells the piece that begins at `at`
pub record PieceAt (syntax : Syntax) (p : List ℕ) (at : ℕ) (r : Option ℕ) : Type 0 where
  pub ahead : Ahead p at r
  pub same : piece_in p at r ≡ first_piece syntax (drop at p)

-- an answer tells the set whose bracket stands at `at`
pub record SetAt (p : List ℕ) (at : ℕ) (r : Option ℕ) : Type 0 where
  pub ahead : Ahead p at r
  pub same : piece_in p at r ≡ set_piece (part_at 93 (drop (at + 1) p))

-- ---- a run of pieces

-- a byte that is no brace, no comma, no bracket and no backslash
pub record Ordinary (c : ℕ) : Type 0 where
  pub no_brace : c ≡ 123 → ⊥
  pub no_close : c ≡ 125 → ⊥
  pub no_comma : c ≡ 44 → ⊥
  pub no_slash : c ≡ 92 → ⊥
  pub no_bracket : c ≡ 91 → ⊥

-- pieces as they are written, and a reading of what follows them
unfoldable pub with_pieces : List (List ℕ) → TreeRead → TreeRead
with_pieces [] o = o
with_pieces (w ∷ ws) o = bind (with_pieces ws o) (λ t r. parsed (piece w t) r)

-- their bytes
unfoldable pub flat : List (List ℕ) → List ℕ
flat [] = []
flat (w ∷ ws) = w ++ flat ws

-- what follows an opening brace: the rest of its list, and a pattern
unfoldable pub opening : Syntax → Bool → List ℕ → TreeRead
opening syntax inside s = bind (list_of syntax true s) (λ a r. bind (pattern_of syntax inside r) (λ t u. parsed (list a t) u))

-- the reading of what follows a run
abbrev pub read_after : Syntax → Bool → List ℕ → Option Run → TreeRead
read_after syntax inside p (Some (Opens e)) = opening syntax inside (drop (e + 1) p)
read_after syntax inside p (Some (Ends e)) = parsed empty (drop e p)
read_after syntax inside p None = malformed

-- the pieces stand from `at` up to e
pub record Covers (p : List ℕ) (at e : ℕ) (ws : List (List ℕ)) : Type 0 where
  pub low : at ≤ e
  pub high : e ≤ length p
  pub written : flat ws ≡ take (e - at) (drop at p)

abbrev pub CoversRun : List ℕ → ℕ → List (List ℕ) → Option Run → Type 0
CoversRun p at ws (Some (Opens e)) = (e < length p) × Covers p at e ws
CoversRun p at ws (Some (Ends e)) = Covers p at e ws
CoversRun p at ws None = Unit {0}

-- an answer tells the run of pieces from `at` on
pub record RunAt (syntax : Syntax) (inside : Bool) (p : List ℕ) (at : ℕ) (r : Option Run) : Type 0 where
  pub pieces : List (List ℕ)
  pub spans : CoversRun p at pieces r
  pub reads : pattern_of syntax inside (drop at p) ≡ with_pieces pieces (read_after syntax inside p r)

-- ---- an alternative, or a list of them

-- what is told of a reading: the bytes left, the depth, and the number up to 65
pub data Seen : Type 0 where
  done : List ℕ → ℕ → ℕ → Seen
  faulty : Seen

unfoldable pub seen : TreeRead → Seen
seen (parsed t r) = done r (depth t) (min (number t) 65)
seen malformed = faulty

-- what was read up to a place: so deep, so many
abbrev pub read_to : ℕ → ℕ → ℕ → Option ListRead
read_to next depth number = Some record { next = next; depth = depth; number = number }

abbrev pub seen_in : List ℕ → Option ListRead → Seen
seen_in p (Some r) = done (drop r.next p) r.depth r.number
seen_in p None = faulty

-- where a reading ends, and how deep and how many it can be
pub record ReadBounds (p : List ℕ) (at next d n : ℕ) : Type 0 where
  pub low : at ≤ next
  pub high : next ≤ length p
  pub deep : at + d ≤ next
  pub positive : 0 < n
  pub small : n ≤ 65

abbrev pub BoundsIn : List ℕ → ℕ → Option ListRead → Type 0
BoundsIn p at (Some r) = ReadBounds p at r.next r.depth r.number
BoundsIn p at None = Unit {0}

-- an answer about the bytes from `at` on tells the reading o of them
pub record Tells (p : List ℕ) (at : ℕ) (r : Option ListRead) (o : TreeRead) : Type 0 where
  pub within : BoundsIn p at r
  pub same : seen_in p r ≡ seen o

-- ---- the k-th expansion

-- the k-th expansion of a tree, found without the others
unfoldable pub nth : ℕ → Tree → List ℕ
nth k empty = []
nth k (piece b t) = b ++ nth k t
nth k (list a t) = nth (k / number t) a ++ nth (k % number t) t
nth k (or a b) = cond (ltb k (number a)) (nth k a) (nth (k - number a) b)

abbrev pub chosen : ℕ → TreeRead → List ℕ
chosen k (parsed t r) = nth k t
chosen k malformed = []

-- a reading whose tree has n expansions
abbrev pub HasNumber : TreeRead → ℕ → Type 0
HasNumber (parsed t r) n = n ≡ number t
HasNumber malformed n = ⊥

-- a reading whose tree has a k-th expansion, and not more than 64
abbrev pub HasNth : TreeRead → ℕ → Type 0
HasNth (parsed t r) k = (k < number t) × (number t ≤ 64)
HasNth malformed k = ⊥

-- ---- an alternative of the top level

-- the brace-free expansions of a reading, none where it is malformed
unfoldable pub expansions_in : TreeRead → List (List ℕ)
expansions_in (parsed t r) = expansions t
expansions_in malformed = []

-- a reading from `at` on that leaves the bytes from e on
pub record EndsBefore (p : List ℕ) (at e : ℕ) (o : TreeRead) : Type 0 where
  pub tree : Tree
  pub is : o ≡ parsed tree (drop e p)
  pub low : at ≤ e
  pub high : e ≤ length p

-- where an alternative ends that an answer tells
abbrev pub end_told : Alternative → ℕ
end_told (Flat e) = e
end_told (Braced e n) = e

-- the alternative that was read of a pattern of so many bytes: where it ends, and its number of expansions up to 65 where it has braces
abbrev pub alternative_parsed : ℕ → TreeRead → Option Alternative
alternative_parsed size (parsed t r) = Some (cond (only_pieces t) (Flat (size - length r)) (Braced (size - length r) (min (number t) 65)))
alternative_parsed size malformed = None

-- the alternative that begins at a place of a pattern or at its end; past the end there is none
unfoldable pub alternative_from : Syntax → List ℕ → ℕ → Option Alternative
alternative_from syntax p at = cond (leb at (length p)) (alternative_parsed (length p) (pattern_of syntax false (drop at p))) None

-- a reading whose tree has at most 64 expansions
abbrev pub Few : TreeRead → Type 0
Few (parsed t r) = number t ≤ 64
Few malformed = ⊥

-- an answer tells the reading o of the alternative that begins at `at`: its only expansion is what is written, or how many it has, up to 65
abbrev pub AlternativeAt : List ℕ → ℕ → Option Alternative → TreeRead → Type 0
AlternativeAt p at (Some (Flat e)) o = EndsBefore p at e o × (expansions_in o ≡ take (e - at) (drop at p) ∷ [])
AlternativeAt p at (Some (Braced e n)) o = (w : EndsBefore p at e o) × (n ≡ min (number w.tree) 65)
AlternativeAt p at None o = o ≡ malformed
