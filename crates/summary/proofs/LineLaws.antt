-- The printed lines of figures. Assumes nothing.
use mathlib.Core.Path.{◌≡◌}
use mathlib.Core.List.{List, [], ◌++◌}
use Prim.Native.Nat.{ℕ, ◌+◌, ◌*◌, ◌-◌, ◌/◌, ◌%◌, ◌≤◌, ◌<◌}
use native.Mathlib.Omega.{arith}
use borrow.Author.Tests.{eq-eqb, ne_eqb}
use lib.ListN.{length, get_or, take, drop, drop_of_length-le}
use lib.Seq.{drop-drop}
use Rattle.text.specs.Bytes.{bytes}
use Rattle.text.proofs.Laws.{next}
use Rattle.output.specs.Decimal.{decimal}
use Rattle.summary.specs.Bar.{bar_text}
use Rattle.summary.specs.Summary.{counts_text, row_text, below_text, mean_text}

-- ---- a line for each count
pub counts_next : (names counts : List ℕ) (most i : ℕ) → i < length counts
    → counts_text (drop (i * 20) names) (drop i counts) most ≡ take (i * 20 + 20 - i * 20) (drop (i * 20) names) ++ decimal (get_or counts i 0) ++ bar_text (get_or counts i 0) most ++ bytes "\n" ++ counts_text (drop ((i + 1) * 20) names) (drop (i + 1) counts) most
unfolding counts_text
counts_next names counts most i h =
    let b : i * 20 + 20 - i * 20 ≡ 20 = omega arith in
    let e : (i + 1) * 20 ≡ i * 20 + 20 = omega arith in
    rw (next counts i h, b, e, ← drop-drop 20 (i * 20) names)

pub counts_end : (names counts : List ℕ) (most i : ℕ) → length counts ≤ i → counts_text (drop (i * 20) names) (drop i counts) most ≡ []
unfolding counts_text
counts_end names counts most i h = let d = drop_of_length-le counts {i = i} h in rw d

-- ---- ages
module _ (below : ℕ) where
  pub below_none : below ≡ 0 → below_text below ≡ row_text (bytes "below-zero-sum      ") 0
  unfolding below_text
  below_none e = rw (eq-eqb below 0 e)

  pub below_some : (below ≡ 0 → ⊥) → below_text below ≡ row_text (bytes "below-zero-sum      -") below
  unfolding below_text
  below_some h = rw (ne_eqb below 0 h)

module _ (sum count : ℕ) where
  pub mean_none : count ≡ 0 → mean_text sum count ≡ bytes "age-mean            -\n"
  unfolding mean_text
  mean_none e = rw (eq-eqb count 0 e)

  pub mean_of_law : (count ≡ 0 → ⊥) → mean_text sum count ≡ bytes "age-mean            " ++ decimal (sum / count) ++ bytes "." ++ decimal (sum % count * 10 / count) ++ bytes "\n"
  unfolding mean_text
  mean_of_law h = rw (ne_eqb count 0 h)
