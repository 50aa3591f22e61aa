-- The laws of the pieces of a question line. Assumes nothing.
use Rattle.std.specs.List.{list_any}
use Rattle.std.specs.Prelude.{None, Option, Some}
use mathlib.Core.Path.{◌≡◌, refl, ap, ◌∙◌}
use mathlib.Core.Bool.{Bool, true, false}
use mathlib.Core.List.{List, ◌∷◌}
use Prim.Native.Nat.{ℕ, ◌+◌, ◌-◌, ◌≤◌, ◌<◌}
use native.Mathlib.Omega.{arith}
use borrow.Author.Tests.{le-leb, lt-leb, ltb-true, ltb-false}
use lib.Dec.{eqb, ltb}
use lib.ListN.{length, take, drop}
use Rattle.text.specs.Lists.{has, split_at}
use Rattle.text.specs.Contract.{lead, Wrote}
use Rattle.text.proofs.Laws.{part_rest, part_length, both_no}
use Rattle.text.proofs.Buffers.{wrote_done, wrote_read}
use Rattle.text.proofs.Leads.{split_at_law, split_last}
use Rattle.text.proofs.Splits.{split_some}
use Rattle.console.specs.QuestionLine.{line_limit, groups_in, good_line}
use Rattle.console.specs.Contract.{part}
use Rattle.console.proofs.PartLaws.{groups_length, fits}
use Rattle.su_console.specs.QuestionLine.{su_asked_from, su_asked_in}

-- ---- where TARGET and USER end
module _ (s : List ℕ) (target user : ℕ) (e : target ≡ 0 + lead 32 (drop 0 s)) (f : user ≡ target + 1 + lead 32 (drop (target + 1) s)) where
  -- the second piece is the last, or the first
  pub few_pieces : length s ≤ user → None ≡ su_asked_from (split_at 32 s)
  unfolding su_asked_from
  few_pieces h = go (ltb target (length s)) refl
    where
      go : (t : Bool) → ltb target (length s) ≡ t → None ≡ su_asked_from (split_at 32 s)
      go true q = rw (split_at_law 32 s 0 target e (ltb-true target (length s) q), split_last 32 s (target + 1) user f h)
      go false q = rw (split_last 32 s 0 target e (ltb-false target (length s) q))

  module _ (h : user < length s) where
    two_pieces : split_at 32 s ≡ part s 0 target ∷ part s (target + 1) user ∷ split_at 32 (drop (user + 1) s)
    two_pieces =
        let k : target < length s = omega arith in
        split_at_law 32 s 0 target e k ∙ ap (λ x. part s 0 target ∷ x) (split_at_law 32 s (target + 1) user f h)

    module _ (list : ℕ) (g : list ≡ user + 1 + lead 32 (drop (user + 1) s)) where
      -- a fourth piece stands behind a space at the end of the third
      pub more_pieces : list < length s → None ≡ su_asked_from (split_at 32 s)
      unfolding su_asked_from
      more_pieces k = rw (two_pieces, split_at_law 32 s (user + 1) list g k, (split_some 32 (drop (list + 1) s)).2)

      -- the three pieces, with the groups as the scratch has them
      pub three_pieces : length s ≤ list → (groups : List ℕ) → groups ≡ groups_in (take (length s - (user + 1)) (drop (user + 1) s)) → Some (record { target = part s 0 target; user = part s (target + 1) user; groups = groups }) ≡ su_asked_from (split_at 32 s)
      unfolding su_asked_from
      three_pieces k groups q = rw (two_pieces, split_last 32 s (user + 1) list g k, q, part_rest (user + 1) s)

-- ---- the groups in the scratch, which is as long as the longest line
module _ (s : List ℕ) (user : ℕ) (h : user < length s) (l : length s ≤ line_limit) {old new : List ℕ} (z : length old ≡ line_limit) {r : Option ℕ} (w : Wrote old new 0 (groups_in (take (length s - (user + 1)) (drop (user + 1) s))) r) where
  pub groups_fit : r ≡ None → ⊥
  groups_fit q = fits w (omega (arith, groups_length (take (length s - (user + 1)) (drop (user + 1) s)), part_length s (user + 1) (length s) (omega arith))) q

  pub groups_put : {k : ℕ} → r ≡ Some k → (k ≤ line_limit) × (part new 0 k ≡ groups_in (take (length s - (user + 1)) (drop (user + 1) s)))
  groups_put {k} q = let n : k - 0 ≡ k = omega arith in (omega (arith, (wrote_done w q).0), rw n (wrote_read w q))

-- ---- the whole line
module _ (s : List ℕ) where
  pub long_line : line_limit < length s → None ≡ su_asked_in s
  unfolding su_asked_in good_line
  long_line h = rw (lt-leb (length s) line_limit h)

  pub zero_in_line : list_any (λ b. eqb b 0) s ≡ true → None ≡ su_asked_in s
  unfolding su_asked_in good_line has
  zero_in_line e = rw (e, both_no)

  pub good_line_law : length s ≤ line_limit → list_any (λ b. eqb b 0) s ≡ false → su_asked_from (split_at 32 s) ≡ su_asked_in s
  unfolding su_asked_in good_line has
  good_line_law h e = rw (le-leb (length s) line_limit h, e)
