-- The path with the command put in, byte by byte.
use mathlib.Core.Path.{◌≡◌}
use mathlib.Core.Bool.{cond}
use mathlib.Core.List.{List, [], ◌∷◌, ◌++◌}
use Prim.Native.Nat.{ℕ, ◌+◌, ◌≤◌, ◌<◌}
use lib.ListN.{length, drop, get_or, drop_of_length-le}
use Rattle.text.specs.Bytes.{is}
use Rattle.text.proofs.Laws.{next}
use Rattle.entry.specs.Path.{starred}

-- what the byte at i gives
abbrev pub piece : List ℕ → List ℕ → ℕ → List ℕ
piece w s i = cond (is "*" (get_or s i 0)) w (get_or s i 0 ∷ [])

pub starred_next : (w s : List ℕ) (i : ℕ) → i < length s → starred w (drop i s) ≡ piece w s i ++ starred w (drop (i + 1) s)
unfolding starred
starred_next w s i h = rw (next s i)

pub starred_end : (w s : List ℕ) (i : ℕ) → length s ≤ i → starred w (drop i s) ≡ []
unfolding starred
starred_end w s i h = rw (drop_of_length-le s)
