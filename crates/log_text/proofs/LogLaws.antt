-- Laws of what is printed of a log: bytes that are put together, and calls one after the other, however the bytes were divided. Assumes nothing.
use mathlib.Core.Path.{◌≡◌, refl, sym, ap, ◌∙◌, subst}
use mathlib.Core.List.{List, [], ◌∷◌, ◌++◌, append_assoc, append-nil}
use Prim.Native.Nat.{ℕ, zero, suc, ◌+◌, ◌*◌, ◌-◌, ◌/◌, ◌%◌, ◌≤◌, ◌<◌}
use native.Mathlib.Omega.{arith}
use native.Mathlib.Numerals.{add-one}
use lib.ListN.{length, length-append, length-take, length-drop, take, drop, get_or, set, take-append-drop}
use lib.Seq.{take_at, drop_at, take-append-le, drop-append-le, drop-append-add, take_all, take-add, take-suc, take-suc-set, drop-set-lt, drop-drop, get_or-drop, length-take-le}
use Rattle.text.proofs.Laws.{drop_take}
use Rattle.record.specs.Read.{record_in}
use Rattle.log_text.specs.Printed.{record_text}
use Rattle.log_text.specs.LogText.{lines_in, record_lines, bytes_left, last_text, log_text}
use Rattle.log_text.specs.Contract.{Added, Shows, Series, begun, read, shown, written}

-- ---- the lines of bytes that are put together
none_of : (b : List ℕ) → length b ≡ 0 → b ≡ []
none_of [] e = refl
none_of (x ∷ b) e = absurd (omega arith)

lines_join : (j m : ℕ) (b c : List ℕ) → length b ≡ j * 8 → lines_in (j + m) (b ++ c) ≡ lines_in j b ++ lines_in m c
unfolding lines_in
lines_join zero m b c h = let n = none_of b (omega arith) in let z : 0 + m ≡ m = omega arith in rw (n, z)
lines_join (suc j) m b c h =
    let z : suc j + m ≡ suc (j + m) = omega arith in
    let l : 8 ≤ length b = omega arith in
    let k : length (drop 8 b) ≡ j * 8 = rw (length-drop 8 b) (omega arith) in
    let t : List ℕ = record_text (record_in (take 8 b)) in
    rw (z, take-append-le 8 b c l, drop-append-le 8 b c l)
    (ap (λ (r : List ℕ). t ++ r) (lines_join j m (drop 8 b) c k) ∙ sym (append_assoc t (lines_in j (drop 8 b)) (lines_in m c)))

pub lines_append : (b c : List ℕ) → length b % 8 ≡ 0 → record_lines (b ++ c) ≡ record_lines b ++ record_lines c
unfolding record_lines
lines_append b c w =
    let z : (length b + length c) / 8 ≡ length b / 8 + length c / 8 = omega arith in
    rw (length-append b c, z) (lines_join (length b / 8) (length c / 8) b c (omega arith))

lines_none : (s : List ℕ) → length s < 8 → record_lines s ≡ []
unfolding record_lines lines_in
lines_none s h = let z : length s / 8 ≡ 0 = omega arith in rw z

lines_one : (s : List ℕ) → length s ≡ 8 → record_lines s ≡ record_text (record_in s)
unfolding record_lines lines_in
lines_one s h =
    let z : length s / 8 ≡ 1 = omega arith in
    let l : length s ≤ 8 = omega arith in
    rw (z, take_all 8 s l) (append-nil (record_text (record_in s)))

left_append : (b c : List ℕ) → length b % 8 ≡ 0 → bytes_left (b ++ c) ≡ bytes_left c
unfolding bytes_left
left_append b c w =
    let z : length b + length c - (length b + length c) % 8 ≡ length b + (length c - length c % 8) = omega arith in
    rw (length-append b c, z) (drop-append-add b c (length c - length c % 8))

left_short : (s : List ℕ) → length s < 8 → bytes_left s ≡ s
unfolding bytes_left
left_short s h = let z : length s - length s % 8 ≡ 0 = omega arith in rw z

-- the whole records that bytes begin with, and what is left
abbrev whole_part : List ℕ → List ℕ
whole_part s = take (length s - length s % 8) s

part_whole : (s : List ℕ) → length (whole_part s) % 8 ≡ 0
part_whole s = rw (length-take (length s - length s % 8) s) (omega arith)

part_left : (s : List ℕ) → whole_part s ++ bytes_left s ≡ s
unfolding bytes_left
part_left s = take-append-drop (length s - length s % 8) s

left_length : (s : List ℕ) → length (bytes_left s) < 8
unfolding bytes_left
left_length s = rw (length-drop (length s - length s % 8) s) (omega arith)

part_lines : (s : List ℕ) → record_lines s ≡ record_lines (whole_part s)
part_lines s =
    ap record_lines (sym (part_left s)) ∙ lines_append (whole_part s) (bytes_left s) (part_whole s)
    ∙ ap (λ (x : List ℕ). record_lines (whole_part s) ++ x) (lines_none (bytes_left s) (left_length s)) ∙ append-nil (record_lines (whole_part s))

-- bytes in front of others: their whole records, and what is left, in front of the others
part_on : (b c : List ℕ) → b ++ c ≡ whole_part b ++ (bytes_left b ++ c)
part_on b c = ap (λ (x : List ℕ). x ++ c) (sym (part_left b)) ∙ append_assoc (whole_part b) (bytes_left b) c

pub lines_on : (b c : List ℕ) → record_lines (b ++ c) ≡ record_lines b ++ record_lines (bytes_left b ++ c)
lines_on b c =
    ap record_lines (part_on b c) ∙ lines_append (whole_part b) (bytes_left b ++ c) (part_whole b)
    ∙ ap (λ (x : List ℕ). x ++ record_lines (bytes_left b ++ c)) (sym (part_lines b))

pub left_on : (b c : List ℕ) → bytes_left (b ++ c) ≡ bytes_left (bytes_left b ++ c)
left_on b c = ap bytes_left (part_on b c) ∙ left_append (whole_part b) (bytes_left b ++ c) (part_whole b)

-- a log is its whole records and what is left, which are no record
pub log_of : (b c : List ℕ) → length b % 8 ≡ 0 → length c < 8 → record_lines b ++ last_text c ≡ log_text (b ++ c)
unfolding log_text
log_of b c w h =
    let l : record_lines (b ++ c) ≡ record_lines b = lines_append b c w ∙ ap (λ (x : List ℕ). record_lines b ++ x) (lines_none c h) ∙ append-nil (record_lines b) in
    let r : bytes_left (b ++ c) ≡ c = left_append b c w ∙ left_short c h in
    rw (l, r)

pub log_end : (s : List ℕ) → record_lines s ++ last_text (bytes_left s) ≡ log_text s
unfolding log_text
log_end s = refl

-- ---- the lines up to a place of a block
pub some_of : (n : ℕ) → (n ≡ 0 → ⊥) → 0 < n
some_of n h = omega arith

module _ (block : List ℕ) (at : ℕ) (h : at ≤ length block) (w : at % 8 ≡ 0) where
  front_whole : length (take at block) % 8 ≡ 0
  front_whole = rw (length-take-le at block h) w

  pub lines_more : (n : ℕ) → record_lines (take (at + n) block) ≡ record_lines (take at block) ++ record_lines (take n (drop at block))
  lines_more n = ap record_lines (take-add at n block) ∙ lines_append (take at block) (take n (drop at block)) front_whole

  -- less than a record is left
  pub lines_all : length block < at + 8 → record_lines (take at block) ≡ record_lines block
  lines_all l =
      let d : length (drop at block) < 8 = rw (length-drop at block) (omega arith) in
      sym (ap record_lines (sym (take-append-drop at block)) ∙ lines_append (take at block) (drop at block) front_whole
      ∙ ap (λ (x : List ℕ). record_lines (take at block) ++ x) (lines_none (drop at block) d) ∙ append-nil (record_lines (take at block)))

pub shows_none : (block waited : List ℕ) → Shows block waited 0 waited
unfolding record_lines lines_in
shows_none block waited = record { part = omega arith; whole = refl; lines = sym (append-nil waited) }

-- the next eight bytes from a place on
pub record PartAt (block x s : List ℕ) (at : ℕ) : Type 0 where
  pub within : at + 8 ≤ length block
  pub part : take 8 (drop at block) ≡ x
  pub rest : s ≡ drop (at + 8) block

pub part_at : (block x s : List ℕ) (at : ℕ) → drop at block ≡ x ++ s → length x ≡ 8 → PartAt block x s at
part_at block x s at e h =
    let n = ap length e in
    record {
      within = omega (arith, length-drop at block, length-append x s, n);
      part = rw e (take_at x s 8 h);
      rest = sym (sym (drop-drop 8 at block) ∙ ap (drop 8) e ∙ drop_at x s 8 h);
    }

-- one record more
pub shows_on : (block waited : List ℕ) {at waiting r : ℕ} {out new x : List ℕ} → at + 8 ≤ length block → take 8 (drop at block) ≡ x → Shows block waited at (take waiting out)
    → Added (record_text (record_in x)) out waiting new r → Shows block waited (at + 8) (take r new)
shows_on block waited {at} {waiting} {r} {out} {new} {x} h e s a =
    let l : length x ≡ 8 = rw (← e) (rw (length-take 8 (drop at block), length-drop at block) (omega arith)) in
    let t : List ℕ = record_text (record_in x) in
    record {
      part = h;
      whole = omega (arith, s.whole);
      lines =
          a.text_behind
          ∙ ap (λ (y : List ℕ). y ++ t) s.lines
          ∙ append_assoc waited (record_lines (take at block)) t
          ∙ ap (λ (y : List ℕ). waited ++ (record_lines (take at block) ++ y)) (sym (lines_one x l) ∙ ap record_lines (sym e))
          ∙ ap (λ (y : List ℕ). waited ++ y) (sym (lines_more block at s.part s.whole 8));
    }

-- ---- what is left at the end
last_none : (s : List ℕ) → length s ≡ 0 → last_text s ≡ []
unfolding last_text
last_none [] e = refl
last_none (b ∷ s) e = absurd (omega arith)

last_some : (s : List ℕ) → (length s ≡ 0 → ⊥) → last_text s ≡ record_text (record_in s)
unfolding last_text
last_some [] h = absurd (h refl)
last_some (b ∷ s) h = refl

pub added_none : (s out : List ℕ) {waiting : ℕ} → length s ≡ 0 → waiting ≤ length out → Added (last_text s) out waiting out waiting
added_none s out {waiting} e h = record { within = h; text_behind = sym (append-nil (take waiting out)) ∙ ap (λ (x : List ℕ). take waiting out ++ x) (sym (last_none s e)) }

pub added_some : (s : List ℕ) {out new : List ℕ} {waiting r : ℕ} → (length s ≡ 0 → ⊥) → Added (record_text (record_in s)) out waiting new r → Added (last_text s) out waiting new r
added_some s {out} {new} {waiting} {r} h a = subst (λ (x : List ℕ). Added x out waiting new r) (sym (last_some s h)) a

-- ---- series
-- what a series has read, shown and handed on
pub record Told (input unshown printed waiting : List ℕ) : Type 0 where
  pub records : List ℕ
  pub whole : length records % 8 ≡ 0
  pub all : input ≡ records ++ unshown
  pub lines : printed ++ waiting ≡ record_lines records

pub series_told : {input unshown printed waiting : List ℕ} → Series input unshown printed waiting → Told input unshown printed waiting
unfolding record_lines lines_in
series_told begun = record { records = []; whole = refl; all = refl; lines = refl }
series_told (read {unshown = u} bytes s) =
    let h = series_told s in
    record { records = h.records; whole = h.whole; all = ap (λ (x : List ℕ). x ++ bytes) h.all ∙ append_assoc h.records u bytes; lines = h.lines }
series_told (shown {unshown = u} {printed = p} {waited = v} {bytes = n} s t) =
    let h = series_told s in
    let part : List ℕ = take n u in
    let l = length-take-le n u t.part in
    record {
      records = h.records ++ part;
      whole = rw (length-append h.records part, l) (omega (arith, h.whole, t.whole));
      all = h.all ∙ ap (λ (x : List ℕ). h.records ++ x) (sym (take-append-drop n u)) ∙ sym (append_assoc h.records part (drop n u));
      lines = ap (λ (x : List ℕ). p ++ x) t.lines ∙ sym (append_assoc p v (record_lines part)) ∙ ap (λ (x : List ℕ). x ++ record_lines part) h.lines ∙ sym (lines_append h.records part h.whole);
    }
series_told (written {printed = p} {waiting = v} s) =
    let h = series_told s in
    record { records = h.records; whole = h.whole; all = h.all; lines = append-nil (p ++ v) ∙ h.lines }

-- once less than a record is left and its line was put behind those that wait: all that was handed on, in order, and what waits is the text of all bytes read
pub series_log : {input unshown printed waited : List ℕ} (waiting : List ℕ) → Series input unshown printed waited → length unshown < 8 → waiting ≡ waited ++ last_text unshown → printed ++ waiting ≡ log_text input
series_log {input} {unshown} {printed} {waited} waiting s h e =
    let t = series_told s in
    ap (λ (x : List ℕ). printed ++ x) e ∙ sym (append_assoc printed waited (last_text unshown)) ∙ ap (λ (x : List ℕ). x ++ last_text unshown) t.lines
    ∙ log_of t.records unshown t.whole h ∙ ap log_text (sym t.all)

-- dividing a log otherwise changes nothing that is printed
pub divided_otherwise : {input unshown printed waited unshown' printed' waited' : List ℕ} (waiting waiting' : List ℕ)
    → Series input unshown printed waited → length unshown < 8 → waiting ≡ waited ++ last_text unshown
    → Series input unshown' printed' waited' → length unshown' < 8 → waiting' ≡ waited' ++ last_text unshown' → printed ++ waiting ≡ printed' ++ waiting'
divided_otherwise waiting waiting' s h e t k f = series_log waiting s h e ∙ sym (series_log waiting' t k f)

-- ---- a block
-- what is left of a block's first bytes, moved to its front
pub left_moved : (old new : List ℕ) (end : ℕ) → end ≤ length old → take (end - (end - end % 8)) new ≡ take (end - (end - end % 8)) (drop (end - end % 8) old) → take (end % 8) new ≡ bytes_left (take end old)
unfolding bytes_left
left_moved old new end h e =
    let z : end - (end - end % 8) ≡ end % 8 = omega arith in
    rw (length-take-le end old h) (ap (λ (n : ℕ). take n new) (sym z) ∙ e ∙ sym (drop_take (end - end % 8) end old))

-- one byte more is moved to the front: it stands where it stood, since no store has come so far
module _ (old new : List ℕ) (from i : ℕ) (h : from + i < length old) (l : length new ≡ length old) (d : drop (from + i) new ≡ drop (from + i) old) where
  pub moved_byte : get_or new (from + i) 0 ≡ get_or (drop from old) i 0
  moved_byte = sym (get_or-drop (from + i) new 0 0 ∙ ap (λ (n : ℕ). get_or new n 0) (omega arith)) ∙ ap (λ (x : List ℕ). get_or x 0 0) d ∙ get_or-drop (from + i) old 0 0 ∙ ap (λ (n : ℕ). get_or old n 0) (omega arith) ∙ sym (get_or-drop from old i 0)

  pub moved_on : take i new ≡ take i (drop from old) → take (i + 1) (set new i (get_or new (from + i) 0)) ≡ take (i + 1) (drop from old)
  moved_on e =
      let k : i < length (drop from old) = rw (length-drop from old) (omega arith) in
      let g : i < length new = omega arith in
      rw (add-one, take-suc-set new i (get_or new (from + i) 0) g, take-suc (drop from old) i 0 k, e, moved_byte)

  pub moved_rest : (b : ℕ) → drop (from + (i + 1)) (set new i b) ≡ drop (from + (i + 1)) old
  moved_rest b =
      drop-set-lt (from + (i + 1)) new i b (omega arith) ∙ ap (λ (n : ℕ). drop n new) z ∙ sym (drop-drop 1 (from + i) new) ∙ ap (drop 1) d ∙ drop-drop 1 (from + i) old ∙ ap (λ (n : ℕ). drop n old) (sym z)
    where
      z : from + (i + 1) ≡ from + i + 1
      z = omega arith
