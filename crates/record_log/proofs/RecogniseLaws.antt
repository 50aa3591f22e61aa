-- What was seen of the bytes of a file, record by record and block by block.
use Rattle.std.specs.List.{list_all}
use Rattle.std.proofs.Common.{◌≡◌, ℕ, suc, ◌+◌, ◌/◌, ◌%◌, ◌<◌, Bool, true, false, cond, ◌&&◌, eqb, List, [], ◌∷◌, ◌++◌, length, refl, sym, arith, length-append, Some, is_none}
use Rattle.std.proofs.lemmas.List.{take_all}
use borrow.Author.Tests.{ne_eqb}
use Rattle.text.specs.Lists.{null}
use Rattle.text.proofs.Lists.{all_append}
use Rattle.line.specs.Refused.{accepted, refused_from, refused_byte}
use Rattle.figures.specs.Figures.{records_in, records_of}
use Rattle.figures.proofs.Dividing.{records_append}
use Rattle.record_log.specs.declared.recognise.Seen.{Seen}
use Rattle.record_log.specs.Recognised.{is_record, kind_of, seen_in, kind_seen}

-- ---- the bytes of a table
text_from : (at : ℕ) (s : List ℕ) → is_none (refused_from at s) ≡ list_all accepted s
unfolding refused_from
text_from at [] = refl
text_from at (b ∷ s) = by_byte (accepted b) (text_from (at + 1) s)
  where
    by_byte : (t : Bool) → is_none (refused_from (at + 1) s) ≡ list_all accepted s → is_none (cond t (refused_from (at + 1) s) (Some at)) ≡ t && list_all accepted s
    by_byte true e = e
    by_byte false e = refl

pub text_found : (s : List ℕ) → list_all accepted s ≡ is_none (refused_byte s)
unfolding refused_byte
text_found s = sym (text_from 0 s)

-- ---- one record after the other
record_alone : (x : List ℕ) → length x ≡ 8 → records_of x ≡ x ∷ []
unfolding records_of records_in
record_alone x h = let z : length x / 8 ≡ 1 = omega arith in rw (z, take_all 8 x (omega arith))

record_first : (x s : List ℕ) → length x ≡ 8 → records_of (x ++ s) ≡ x ∷ records_of s
record_first x s h = rw (records_append x s (omega arith), record_alone x h)

module _ {r : List ℕ} (x s : List ℕ) (h : length x ≡ 8) (e : r ≡ x ++ s) where
  pub record_good : is_record x ≡ true → list_all is_record (records_of s) ≡ list_all is_record (records_of r)
  record_good t = rw (e, record_first x s h, t)

  pub record_bad : is_record x ≡ false → false ≡ list_all is_record (records_of r)
  record_bad t = rw (e, record_first x s h, t)

-- what is left is too short for one
pub records_end : (s : List ℕ) → length s < 8 → true ≡ list_all is_record (records_of s)
unfolding records_of records_in
records_end s h = let z : length s / 8 ≡ 0 = omega arith in rw z

-- ---- one block after the other
null_append : (x y : List ℕ) → null (x ++ y) ≡ null x && eqb (length y) 0
null_append [] [] = refl
null_append [] (b ∷ y) = sym (ne_eqb (suc (length y)) 0 (omega arith))
null_append (a ∷ x) y = refl

module _ {k : Seen} (bytes block : List ℕ) (w : length bytes % 8 ≡ 0) (e : k ≡ seen_in bytes) where
  pub seen_with :
      (record { empty = k.empty && eqb (length block) 0; textual = k.textual && list_all accepted block; readable = k.readable && list_all is_record (records_of block); whole = eqb (length block % 8) 0 })
      ≡ seen_in (bytes ++ block)
  unfolding seen_in
  seen_with =
      let z : (length bytes + length block) % 8 ≡ length block % 8 = omega arith in
      rw (e, null_append bytes block, all_append accepted bytes block, records_append bytes block w, all_append is_record (records_of bytes) (records_of block), length-append bytes block, z)

-- ---- the kind
-- the kind by what was seen of all bytes is that of the whole
pub kind_seen_law : (s : List ℕ) → kind_seen (seen_in s) ≡ kind_of s
unfolding kind_seen seen_in kind_of
kind_seen_law s = refl
