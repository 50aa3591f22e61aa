-- What bytes of the joined line do to what has been laid, and to the quoting.
use mathlib.Core.Path.{◌≡◌, refl, sym, ap, ◌∙◌}
use mathlib.Core.Bool.{Bool, true, false, cond, ◌||◌}
use mathlib.Core.List.{List, [], ◌∷◌, ◌++◌, map}
use Prim.Native.Nat.{ℕ, zero, suc, ◌+◌, ◌≤◌, ◌<◌}
use native.Mathlib.Nat.{add-zero}
use native.Mathlib.Omega.{arith}
use borrow.Author.Tests.{le-ltb}
use lib.Dec.{ltb}
use lib.ListN.{length, take, replicate}
use Rattle.text.specs.Bytes.{is}
use Rattle.text.specs.Buffer.{laid}
use Rattle.text.specs.Class.{blank, word_byte}
use Rattle.text.specs.Quote.{quoting_after}
use Rattle.text.specs.declared.quote.Quoting.TheVariants.{Outside, Single, Double}
use Rattle.line.specs.Joined.{Mode, in_fields, in_comment, JoinedByte, kept, between, leading, parts_fields, gives, join_blank, mode_after, mode_joined}
use Rattle.line.specs.Scan.{quoting_at_end}
use Rattle.line.specs.Contract.{quoting_of, Progress, closed_if, closed_off, longer, absorbed, absorbed_all}
use Rattle.line.proofs.JoinedLaws.{Steady, by_blank}

-- ---- the quoting
blank_quoting : (b : ℕ) → blank b ≡ true → quoting_after Outside b ≡ Outside
unfolding quoting_after
blank_quoting = by_blank (λ b. quoting_after Outside b ≡ Outside) refl refl

pub quoting_byte : (m : Mode) (b : ℕ) (j : List JoinedByte) → quoting_at_end (quoting_of m) (gives m b ∷ j) ≡ quoting_at_end (quoting_of (mode_after m b)) j
unfolding quoting_at_end parts_fields mode_after
quoting_byte in_comment b j = refl
quoting_byte (in_fields Single) b j = refl
quoting_byte (in_fields Double) b j = refl
quoting_byte (in_fields Outside) b j = go (is "#" b) (blank b) refl
  where
    go : (c d : Bool) → blank b ≡ d → quoting_at_end Outside (cond (c || d) between (kept b) ∷ j) ≡ quoting_at_end (quoting_of (cond c in_comment (in_fields (quoting_after Outside b)))) j
    go true d e = refl
    go false true e = rw (blank_quoting b e)
    go false false e = refl

pub quoting_join : (hash : Bool) (m : Mode) (before : ℕ) (j : List JoinedByte) → quoting_at_end (quoting_of m) (join_blank m before ++ j) ≡ quoting_at_end (quoting_of (mode_joined hash m)) j
unfolding quoting_at_end quoting_after parts_fields join_blank mode_joined blank
quoting_join true in_comment before j = refl
quoting_join false in_comment before j = refl
quoting_join hash (in_fields Outside) before j = go (word_byte before)
  where
    go : (t : Bool) → quoting_at_end Outside (cond t (between ∷ []) [] ++ j) ≡ quoting_at_end Outside j
    go true = refl
    go false = refl
quoting_join hash (in_fields Single) before j = go (word_byte before)
  where
    go : (t : Bool) → quoting_at_end Single (cond t (kept 32 ∷ []) [] ++ j) ≡ quoting_at_end Single j
    go true = refl
    go false = refl
quoting_join hash (in_fields Double) before j = go (word_byte before)
  where
    go : (t : Bool) → quoting_at_end Double (cond t (kept 32 ∷ []) [] ++ j) ≡ quoting_at_end Double j
    go true = refl
    go false = refl

pub quoting_run : {f : ℕ → Bool} {m : Mode} {g : ℕ → JoinedByte} → Steady f m g → (s : List ℕ) (j : List JoinedByte) → quoting_at_end (quoting_of m) (map g (take (leading f s) s) ++ j) ≡ quoting_at_end (quoting_of m) j
unfolding leading
quoting_run w [] j = refl
quoting_run {f} {m} {g} w (b ∷ s) j = go (f b) refl (quoting_run w s j)
  where
    go : (t : Bool) → f b ≡ t → quoting_at_end (quoting_of m) (map g (take (leading f s) s) ++ j) ≡ quoting_at_end (quoting_of m) j → quoting_at_end (quoting_of m) (map g (take (cond t (suc (leading f s)) 0) (b ∷ s)) ++ j) ≡ quoting_at_end (quoting_of m) j
    go true e r = ap (λ x. quoting_at_end (quoting_of m) (x ∷ map g (take (leading f s) s) ++ j)) (sym (w.mark b e)) ∙ quoting_byte m b (map g (take (leading f s) s) ++ j) ∙ rw (w.stays b e) r
    go false e r = refl

-- ---- what has been laid
pub closed_of : (P : Progress → Type 0) (p : Progress) → P (closed_if true p) → P p → P (closed_off p)
unfolding closed_off
closed_of P p a b = go (ltb p.start p.kept)
  where
    go : (t : Bool) → P (closed_if t p)
    go true = a
    go false = b

pub absorbed_append : (p : Progress) (i j : List JoinedByte) → absorbed_all p (i ++ j) ≡ absorbed_all (absorbed_all p i) j
unfolding absorbed_all
absorbed_append p [] j = refl
absorbed_append p (x ∷ i) j = absorbed_append (absorbed p x) i j

-- bytes of a field, one behind the other
pub absorbed_kept : (p : Progress) (s : List ℕ) → absorbed_all p (map kept s) ≡ record { joined = p.joined + length s; kept = p.kept + length s; fields = p.fields; start = p.start; text = laid p.text p.kept s; ends = p.ends }
unfolding absorbed_all absorbed laid
absorbed_kept p [] = rw (add-zero, add-zero)
absorbed_kept p (b ∷ s) =
    let y : p.joined + 1 + length s ≡ p.joined + suc (length s) = omega arith in
    let z : p.kept + 1 + length s ≡ p.kept + suc (length s) = omega arith in
    rw (← y, ← z) (absorbed_kept (absorbed p (kept b)) s)

-- bytes between fields: the first of them closes a field
closed_longer : (p : Progress) (n : ℕ) → closed_off (longer p n) ≡ longer (closed_off p) n
unfolding closed_off
closed_longer p n = go (ltb p.start p.kept)
  where
    go : (t : Bool) → closed_if t (longer p n) ≡ longer (closed_if t p) n
    go true = refl
    go false = refl

closed_closed : (p : Progress) → closed_off (closed_off p) ≡ closed_off p
unfolding closed_off
closed_closed p = go (ltb p.start p.kept) refl
  where
    go : (t : Bool) → ltb p.start p.kept ≡ t → closed_off (closed_off p) ≡ closed_off p
    go true e = let h : p.kept ≤ p.kept = omega arith in rw (e, le-ltb p.kept p.kept h)
    go false e = rw (e, e)

absorbed_between : (p : Progress) (n : ℕ) → absorbed_all p (replicate (suc n) between) ≡ longer (closed_off p) (suc n)
unfolding absorbed_all absorbed
absorbed_between p zero = closed_longer p 1
absorbed_between p (suc n) =
    let z : (closed_off p).joined + 1 + suc n ≡ (closed_off p).joined + suc (suc n) = omega arith in
    ap (λ q. absorbed_all q (replicate (suc n) between)) (closed_longer p 1) ∙ absorbed_between (longer (closed_off p) 1) n ∙ rw (closed_longer (closed_off p) 1, closed_closed p, z)

pub parted : (p : Progress) {q : Progress} (n : ℕ) → 0 < n → q ≡ closed_off p → longer q n ≡ absorbed_all p (replicate n between)
parted p zero h e = absurd (omega arith)
parted p (suc n) h e = rw e (sym (absorbed_between p n))

pub closed_joined : (p : Progress) → (closed_off p).joined ≡ p.joined
closed_joined p = closed_of (λ q. q.joined ≡ p.joined) p refl refl
