-- What refuses a text as a whole: whether it is accepted, and whether its last line ends. Assumes nothing.
use Rattle.std.specs.Prelude.{Err, None, Ok, Option, Some}
use mathlib.Core.Path.{◌≡◌, refl, sym, ap, ◌∙◌}
use mathlib.Core.Bool.{Bool, true, false}
use mathlib.Core.List.{List}
use Prim.Native.Nat.{ℕ, ◌+◌, ◌≤◌}
use native.Mathlib.Omega.{arith}
use borrow.Author.Tests.{le-leb, leb-true}
use lib.Dec.{leb}
use lib.ListN.{length, take, length-take}
use Rattle.fault.specs.Fault.{require}
use Rattle.line.specs.declared.whole.Unaccepted.TheVariants.{Long, RefusedAt}
use Rattle.line.specs.Line.{table_limit, lines_of, last_end}
use Rattle.line.specs.Refused.{refused_byte}
use Rattle.line.specs.Whole.{by_byte, acceptance_of}
use Rattle.line.specs.Contract.{lines_from, LineEnds}
use Rattle.line.proofs.RefusedLaws.{clean_cut}
use Rattle.line.proofs.WithinLaws.{refused_place}

-- ---- whether a text is accepted
module _ (t : List ℕ) where
  -- an accepted text is not too long, and has no refused byte
  accepted_is : acceptance_of t ≡ Ok tt → (length t ≤ table_limit) × (refused_byte t ≡ None)
  accepted_is = by (leb (length t) table_limit) refl (refused_byte t) refl
    where
      by : (x : Bool) → leb (length t) table_limit ≡ x → (o : Option ℕ) → refused_byte t ≡ o → require x Long (by_byte o) ≡ Ok tt → (length t ≤ table_limit) × (refused_byte t ≡ None)
      by true e None f g = (leb-true (length t) table_limit e, f)
      by true e (Some p) f g = cc
      by false e o f g = cc

  pub accepted_short : acceptance_of t ≡ Ok tt → length t ≤ table_limit
  accepted_short e = (accepted_is e).0

  -- the place of a refused byte is within the limit
  pub refused_within : {p : ℕ} → acceptance_of t ≡ Err (RefusedAt p) → p ≤ table_limit
  refused_within {p} = by (leb (length t) table_limit) refl (refused_byte t) refl
    where
      by : (x : Bool) → leb (length t) table_limit ≡ x → (o : Option ℕ) → refused_byte t ≡ o → require x Long (by_byte o) ≡ Err (RefusedAt p) → p ≤ table_limit
      by true e None f g = cc
      by true e (Some q) f g = let z : q ≡ p = cc in omega (arith, refused_place t q f, leb-true (length t) table_limit e)
      by false e o f g = cc

-- what is cut of an accepted text is accepted
pub accepted_cut : (n : ℕ) (t : List ℕ) → acceptance_of t ≡ Ok tt → acceptance_of (take n t) ≡ Ok tt
accepted_cut n t e =
    let a = accepted_is t e in
    rw (le-leb (length (take n t)) table_limit (omega (arith, a.0, length-take n t)), clean_cut n t a.1)

module _ (continues : ℕ → Bool) (t : List ℕ) where
  -- ---- where the last line ends, by the lines from a place on: their last end is that of all
  abbrev pub LastFrom : ℕ → Type 0
  LastFrom at = (number : ℕ) × (last_end at (lines_from continues t at number) ≡ last_end 0 (lines_of continues t))

  pub last_start : LastFrom 0
  last_start = (1, refl)

  module _ {at : ℕ} (l : LastFrom at) where
    pub last_on : {e count : ℕ} → LineEnds continues t at e count → LastFrom e
    last_on {e} {count} w = (l.0 + count, sym (ap (last_end at) (w.reads l.0)) ∙ l.1)
