-- The laws of parts ended by zero bytes, and of the scratch that they are put into. Assumes nothing.
use Rattle.std.specs.Prelude.{None, Option, Some}
use Rattle.std.specs.Str.{bytes_eq}
use mathlib.Core.Path.{◌≡◌, refl, sym, ap, ◌∙◌}
use mathlib.Core.Bool.{Bool, true, false, cond}
use mathlib.Core.List.{List, [], ◌∷◌, ◌++◌, flat_map}
use Prim.Native.Nat.{ℕ, ◌+◌, ◌-◌, ◌≤◌, ◌<◌}
use native.Mathlib.Omega.{arith}
use borrow.Author.Tests.{lt-ltb, le-ltb, ltb-true}
use lib.Dec.{eqb, ltb}
use lib.ListN.{length, take, drop, get_or, length-drop, drop_of_length-le}
use lib.Seq.{take_at, drop_at, take-take}
use Rattle.text.specs.Bytes.{byte, bytes}
use Rattle.text.specs.Lists.{onto, split_at}
use Rattle.text.specs.Contract.{Wrote}
use Rattle.text.proofs.Laws.{next, part_rest, drop_take}
use Rattle.text.proofs.Splits.{split_some}
use Rattle.text.proofs.Buffers.{wrote_done, wrote_then, wrote_read, up_full}
use Rattle.answer.specs.Meaning.{ended}
use Rattle.console.specs.QuestionLine.{groups_in, arguments_in}
use Rattle.console.specs.Contract.{arguments_behind, part}

-- the bytes with a zero in place of each c, and one more zero
abbrev pub ended_parts : ℕ → List ℕ → List ℕ
ended_parts c s = flat_map ended (split_at c s)

parts_first : (c b : ℕ) (s : List ℕ) → ended_parts c (b ∷ s) ≡ cond (eqb b c) 0 b ∷ ended_parts c s
unfolding split_at flat_map
parts_first c b s = go (eqb b c) (split_some c s)
  where
    go : (t : Bool) → ((p : List ℕ) × (ps : List (List ℕ)) × (split_at c s ≡ p ∷ ps)) → flat_map ended (cond t ([] ∷ split_at c s) (onto b (split_at c s))) ≡ cond t 0 b ∷ flat_map ended (split_at c s)
    go true w = refl
    go false w = rw w.2

-- a turn of a loop that puts the parts
pub parts_next : (c : ℕ) (s : List ℕ) (i : ℕ) → i < length s → ended_parts c (drop i s) ≡ (cond (eqb (get_or s i 0) c) 0 (get_or s i 0) ∷ []) ++ ended_parts c (drop (i + 1) s)
parts_next c s i h = rw (next s i) (parts_first c (get_or s i 0) (drop (i + 1) s))

pub parts_end : (c : ℕ) (s : List ℕ) (i : ℕ) → length s ≤ i → ended_parts c (drop i s) ≡ 0 ∷ []
unfolding split_at flat_map
parts_end c s i h = rw (drop_of_length-le s)

pub parts_length : (c : ℕ) (s : List ℕ) → length (ended_parts c s) ≡ length s + 1
parts_length c [] = empty
  where
    empty : length (ended_parts c []) ≡ 1
    empty = rw (parts_end c [] 0 (omega arith))
parts_length c (b ∷ s) = ap length (parts_first c b s) ∙ rw (parts_length c s) (omega arith)

-- GROUPS
module _ (s : List ℕ) where
  pub groups_none : bytes_eq s (bytes "-") ≡ true → groups_in s ≡ []
  unfolding groups_in
  groups_none e = rw e

  pub groups_some : bytes_eq s (bytes "-") ≡ false → groups_in s ≡ ended_parts (byte ",") s
  unfolding groups_in
  groups_some e = rw e

  pub groups_length : length (groups_in s) ≤ length s + 1
  unfolding groups_in
  groups_length = go (bytes_eq s (bytes "-"))
    where
      go : (t : Bool) → length (cond t [] (ended_parts (byte ",") s)) ≤ length s + 1
      go true = omega arith
      go false = omega (arith, parts_length (byte ",") s)

-- the arguments behind the space at a place
module _ (e : ℕ) (s : List ℕ) where
  pub arguments_some : e < length s → arguments_in (arguments_behind e s) ≡ ended_parts 32 (take (length s - (e + 1)) (drop (e + 1) s))
  unfolding arguments_in arguments_behind
  arguments_some h = rw (lt-ltb e (length s) h, part_rest (e + 1) s)

  pub arguments_none : length s ≤ e → arguments_in (arguments_behind e s) ≡ []
  unfolding arguments_in arguments_behind flat_map
  arguments_none h = rw (le-ltb e (length s) h)

  pub arguments_length : length (arguments_in (arguments_behind e s)) ≤ length s - e
  unfolding arguments_in arguments_behind flat_map
  arguments_length = go (ltb e (length s)) refl
    where
      go : (t : Bool) → ltb e (length s) ≡ t → length (flat_map ended (cond t (split_at 32 (drop (e + 1) s)) [])) ≤ length s - e
      go true q = omega (arith, parts_length 32 (drop (e + 1) s), length-drop (e + 1) s, ltb-true e (length s) q)
      go false q = omega arith

-- bytes that fit are put
pub fits : {old new : List ℕ} {n : ℕ} {xs : List ℕ} {r : Option ℕ} → Wrote old new n xs r → n + length xs ≤ length old → r ≡ None → ⊥
fits {old} {new} {n} {xs} w h e = let k = up_full (length old) (n + length xs) (sym w.answer ∙ e) in omega arith

-- two lists put one behind the other, read back
module _ {old mid new : List ℕ} {xs ys : List ℕ} {r q : Option ℕ} {k m : ℕ} (w : Wrote old mid 0 xs r) (e : r ≡ Some k) (v : Wrote mid new k ys q) (f : q ≡ Some m) where
  ends : (k ≡ length xs) × (m ≡ k + length ys) × (m ≤ length old)
  ends =
      let a = wrote_done w e in
      let b = wrote_done v f in
      let c = wrote_done (wrote_then w e v) f in
      (omega (arith, a.1), b.1, c.0)

  both : take m new ≡ xs ++ ys
  both = wrote_read (wrote_then w e v) f

  pub put_first : part new 0 k ≡ xs
  put_first =
      let z : k - 0 ≡ k = omega arith in
      let l : k ≤ m = omega (arith, ends.1) in
      rw z (sym (take-take k m new l) ∙ ap (take k) both ∙ take_at xs ys k (sym ends.0))

  pub put_second : part new k m ≡ ys
  put_second = sym (drop_take k m new) ∙ ap (drop k) both ∙ drop_at xs ys k (sym ends.0)

  pub put_order : k ≤ m
  put_order = omega (arith, ends.1)

  pub put_within : m ≤ length old
  put_within = ends.2
