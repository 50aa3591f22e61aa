-- The laws of the bytes that are shown.
use mathlib.Core.Path.{◌≡◌}
use mathlib.Core.List.{List, [], ◌∷◌, ◌++◌, map}
use Prim.Native.Nat.{ℕ, ◌+◌, ◌≤◌, ◌<◌}
use lib.ListN.{length, drop, get_or, drop_of_length-le}
use Rattle.text.proofs.Laws.{next}

-- a turn of a loop that writes what a function makes of each byte
module _ (f : ℕ → ℕ) (s : List ℕ) (i : ℕ) where
  pub row_next : {b : ℕ} → i < length s → b ≡ f (get_or s i 0) → map f (drop i s) ≡ (b ∷ []) ++ map f (drop (i + 1) s)
  row_next h e = rw (next s i, e)

  pub row_end : length s ≤ i → map f (drop i s) ≡ []
  row_end h = rw (drop_of_length-le s)
