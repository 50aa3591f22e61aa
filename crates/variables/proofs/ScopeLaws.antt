-- Names compared with those that are built in. Assumes nothing.
use Rattle.std.specs.Str.{bytes_eq}
use mathlib.Core.Path.{◌≡◌, sym}
use mathlib.Core.List.{List}
use Prim.Native.Nat.{ℕ}
use Rattle.std.proofs.lemmas.Slice.Eq.{bytes_eq-Decides}
use Rattle.text.proofs.Laws.{same_test}

-- the first of two texts is the second, or the second the first
pub same_swap : (a b : List ℕ) → bytes_eq a b ≡ bytes_eq b a
same_swap a b = same_test (bytes_eq a b) (bytes_eq b a) (λ e. (bytes_eq-Decides b a).1 (sym ((bytes_eq-Decides a b).0 e))) (λ e. (bytes_eq-Decides a b).1 (sym ((bytes_eq-Decides b a).0 e)))
