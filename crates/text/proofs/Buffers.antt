-- The laws of bytes laid into a buffer, for functions that write one after the other.
use Rattle.std.specs.Prelude.{None, Option, Some}
use mathlib.Core.Path.{◌≡◌, refl, sym, ap, ◌∙◌}
use mathlib.Core.List.{List, [], ◌∷◌, ◌++◌}
use mathlib.Core.Bool.{Bool, true, false, cond}
use Prim.Native.Nat.{ℕ, zero, suc, ◌+◌, ◌-◌, ◌≤◌, ◌<◌, min}
use native.Mathlib.Nat.{add-zero}
use native.Mathlib.Numerals.{add-one}
use native.Mathlib.Omega.{arith}
use borrow.Author.Tests.{le-leb, lt-leb, leb-true, leb-false}
use lib.ListN.{length, drop, get_or, take, set, length-set, length-append, length-take, drop_of_length-le}
use borrow.Rule.Slice.PartMut.{put_mid}
use Rattle.std.proofs.lemmas.Slice.{put_mid-paste}
use lib.Seq.{paste, set_out, sets, sets-eq, take-nil, take_at, take_all, length-take-le}
use lib.Dec.{leb}
use Rattle.text.proofs.Laws.{next}
use Rattle.text.specs.Buffer.{laid}
use Rattle.text.specs.Contract.{filled_to, Wrote}

pub laid_length : (out : List ℕ) (n : ℕ) (xs : List ℕ) → length (laid out n xs) ≡ length out
unfolding laid
laid_length out n [] = refl
laid_length out n (b ∷ xs) = laid_length (set out n b) (n + 1) xs ∙ length-set out n b

-- a turn of a loop that stores what stands at i
pub laid_next : (out : List ℕ) (n : ℕ) (s : List ℕ) (i : ℕ) → i < length s → laid (set out (n + i) (get_or s i 0)) (n + (i + 1)) (drop (i + 1) s) ≡ laid out (n + i) (drop i s)
unfolding laid
laid_next out n s i h = rw (next s i) (ap (λ (k : ℕ). laid (set out (n + i) (get_or s i 0)) k (drop (i + 1) s)) (omega arith))

pub laid_end : (out : List ℕ) (m : ℕ) (s : List ℕ) (i : ℕ) → length s ≤ i → laid out m (drop i s) ≡ out
unfolding laid
laid_end out m s i h = rw (drop_of_length-le s)

-- past the buffer's end nothing is stored
pub laid_past : (out : List ℕ) (m : ℕ) (xs : List ℕ) → length out ≤ m → laid out m xs ≡ out
unfolding laid
laid_past out m [] h = refl
laid_past out m (b ∷ xs) h = rw (set_out out m b h) (laid_past out (m + 1) xs (omega arith))

-- what goes past the buffer's end changes nothing
laid_front : (out : List ℕ) (n m : ℕ) (xs : List ℕ) → min (length xs) (length out - n) ≤ m → laid out n (take m xs) ≡ laid out n xs
unfolding laid
laid_front out n m [] h = rw (take-nil m)
laid_front out n zero (b ∷ xs) h = sym (laid_past out n (b ∷ xs) (omega arith))
laid_front out n (suc m) (b ∷ xs) h = laid_front (set out n b) (n + 1) m xs (omega (arith, length-set out n b))

pub laid_append : (out : List ℕ) (n : ℕ) (xs ys : List ℕ) → laid out n (xs ++ ys) ≡ laid (laid out n xs) (n + length xs) ys
unfolding laid
laid_append out n [] ys = rw add-zero
laid_append out n (b ∷ xs) ys = laid_append (set out n b) (n + 1) xs ys ∙ ap (λ (k : ℕ). laid (laid (set out n b) (n + 1) xs) k ys) (omega arith)

pub laid_sets : (out : List ℕ) (n : ℕ) (xs : List ℕ) → laid out n xs ≡ sets out n xs
unfolding laid
laid_sets out n [] = refl
laid_sets out n (b ∷ xs) = rw add-one (laid_sets (set out n b) (suc n) xs)

-- where all fits, what stands where
pub laid_is : (out : List ℕ) (n : ℕ) (xs : List ℕ) → n + length xs ≤ length out → laid out n xs ≡ take n out ++ xs ++ drop (n + length xs) out
laid_is out n xs h = laid_sets out n xs ∙ sets-eq xs out n h

laid_paste : (out : List ℕ) (n : ℕ) (xs : List ℕ) (k : ℕ) → k ≡ length xs → n + length xs ≤ length out → paste out n xs k ≡ laid out n xs
laid_paste out n xs k e h = rw (e, take_all (length xs) xs (omega arith)) (sym (laid_is out n xs h))

-- what a copy of as many bytes as fit leaves
pub laid_copy : (out : List ℕ) (n m : ℕ) (xs ys : List ℕ) → n ≤ length out → m ≡ min (length xs) (length out - n) → ys ≡ take m xs → put_mid n (n + m - n) out ys ≡ laid out n xs
laid_copy out n m xs ys h e f =
    let k = length-take m xs in
    let z : m ≡ length (take m xs) = omega arith in
    put_mid-paste n (n + m - n) out ys (take m xs) m f (omega arith) z ∙ laid_paste out n (take m xs) m z (omega arith) ∙ laid_front out n m xs (omega arith)

-- what was laid, read back
pub laid_take : (out : List ℕ) (n : ℕ) (xs : List ℕ) → n + length xs ≤ length out → take (n + length xs) (laid out n xs) ≡ take n out ++ xs
laid_take out n xs h =
    let k : n ≤ length out = omega arith in
    ap (take (n + length xs)) (laid_is out n xs h) ∙ take_at (take n out ++ xs) (drop (n + length xs) out) (n + length xs) (length-append (take n out) xs ∙ rw (length-take-le n out k))

pub done_up : (size m : ℕ) → m ≤ size → Some m ≡ filled_to size m
unfolding filled_to
done_up size m h = rw (le-leb m size h)

pub full_up : (size m : ℕ) → size < m → None ≡ filled_to size m
unfolding filled_to
full_up size m h = rw (lt-leb m size h)

-- what an answer tells: by the Bool of the test
told_done : (t : Bool) (m k : ℕ) → cond t (Some m) None ≡ Some k → (t ≡ true) × (k ≡ m)
told_done true m k e = (refl, cc)
told_done false m k e = (cc, cc)

told_full : (t : Bool) (m : ℕ) → cond t (Some m) None ≡ None → t ≡ false
told_full true m e = cc
told_full false m e = refl

pub up_done : (size m k : ℕ) → filled_to size m ≡ Some k → (m ≤ size) × (k ≡ m)
unfolding filled_to
up_done size m k e = let t = told_done (leb m size) m k e in (leb-true m size t.0, t.1)

pub up_full : (size m : ℕ) → filled_to size m ≡ None → size < m
unfolding filled_to
up_full size m e = leb-false m size (told_full (leb m size) m e)

module _ {old mid : List ℕ} {n : ℕ} {xs : List ℕ} {r : Option ℕ} (w : Wrote old mid n xs r) where
  pub wrote_length : length mid ≡ length old
  wrote_length = ap length w.bytes ∙ laid_length old n xs

  pub wrote_done : {k : ℕ} → r ≡ Some k → (k ≤ length old) × (k ≡ n + length xs)
  wrote_done {k} e = let u = up_done (length old) (n + length xs) k (sym w.answer ∙ e) in (omega arith, u.1)

  -- what was written, read back as the buffer's beginning
  pub wrote_read : {k : ℕ} → r ≡ Some k → take k mid ≡ take n old ++ xs
  wrote_read {k} e =
      let d = wrote_done e in
      let h : n + length xs ≤ length old = omega (arith, d.0, d.1) in
      rw (d.1, w.bytes) (laid_take old n xs h)

  -- then more is laid behind it
  pub wrote_then : {new : List ℕ} {k : ℕ} {ys : List ℕ} {q : Option ℕ} → r ≡ Some k → Wrote mid new k ys q → Wrote old new n (xs ++ ys) q
  wrote_then {new} {k} {ys} {q} e v =
      let u = wrote_done e in
      let s : k + length ys ≡ n + length (xs ++ ys) = omega (arith, length-append xs ys, u.1) in
      record {
        answer = v.answer ∙ rw (wrote_length, s);
        bytes = v.bytes ∙ rw (w.bytes, u.1) (sym (laid_append old n xs ys));
      }

  -- it was full before the rest
  pub wrote_full : r ≡ None → (ys : List ℕ) → Wrote old mid n (xs ++ ys) None
  wrote_full e ys =
      let u = up_full (length old) (n + length xs) (sym w.answer ∙ e) in
      record {
        answer = full_up _ _ (simp length-append (omega arith));
        bytes = w.bytes ∙ sym (laid_append old n xs ys ∙ laid_past _ _ _ (rw laid_length (omega arith)));
      }

  -- the same bytes under another name: where `rw` would meet a goal that is not determined
  pub wrote_as : {ys : List ℕ} → ys ≡ xs → Wrote old mid n ys r
  wrote_as e = rw e w

pub wrote_none : (old : List ℕ) (n : ℕ) → n ≤ length old → Wrote old old n [] (Some n)
unfolding laid
wrote_none old n h = record { answer = rw add-zero (done_up (length old) n h); bytes = refl }
