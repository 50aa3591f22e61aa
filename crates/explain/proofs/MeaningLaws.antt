-- What the definitions promise: one physical line, with the place in it, and nothing that a terminal would take for a command.
use Rattle.std.specs.List.{list_all, list_any}
use mathlib.Core.Path.{◌≡◌, refl, ap, ◌∙◌}
use mathlib.Core.Bool.{Bool, true, false, not, cond}
use mathlib.Core.List.{List, [], ◌∷◌, ◌++◌, map}
use mathlib.Core.Logic.{◌⊎◌, inl, inr}
use Prim.Native.Nat.{ℕ, zero, suc, ◌+◌, ◌-◌, ◌≤◌, ◌<◌}
use native.Mathlib.Omega.{arith}
use borrow.Author.Tests.{eqb-true}
use lib.Dec.{eqb}
use lib.ListN.{length, take, drop, get_or, length-drop}
use lib.Seq.{take-suc, take-add, get_or-drop, drop-drop}
use Rattle.text.specs.Bytes.{bytes}
use Rattle.text.specs.Class.{class_of, blank, letter, digit, printable}
use Rattle.text.specs.Contract.{lead}
use Rattle.text.specs.Lists.{has}
use Rattle.text.proofs.Laws.{part_length, both_of}
use Rattle.text.proofs.Lists.{all_append, any_append}
use Rattle.line.specs.Refused.{accepted}
use Rattle.explain.specs.Place.{line_start, line_end, column, physical_line, line_front}
use Rattle.explain.specs.Explained.{control, shown_in, shown_name, rows}
use Rattle.explain.specs.declared.row.Row.{Row}
use Rattle.explain.specs.declared.row.Row.TheVariants.{Line, Caret, Name}

has_append : (c : ℕ) (xs ys : List ℕ) → has c xs ≡ false → has c ys ≡ false → has c (xs ++ ys) ≡ false
unfolding has
has_append c xs ys e f = any_append (λ b. eqb b c) xs ys ∙ rw (e, f)

-- no c stands in front of the first one
lead_clear : (c : ℕ) (s : List ℕ) → has c (take (lead c s) s) ≡ false
unfolding has lead
lead_clear c [] = refl
lead_clear c (b ∷ s) = go (eqb b c) refl (lead_clear c s)
  where
    go : (x : Bool) → eqb b c ≡ x → has c (take (lead c s) s) ≡ false → has c (take (cond x 0 (suc (lead c s))) (b ∷ s)) ≡ false
    go true e r = refl
    go false e r = rw e r

module _ (t : List ℕ) where
  pub start_before : (p : ℕ) → line_start t p ≤ p
  unfolding line_start
  start_before zero = omega arith
  start_before (suc p) = go (eqb (get_or t p 0) 10) (start_before p)
    where
      go : (x : Bool) → line_start t p ≤ p → cond x (suc p) (line_start t p) ≤ suc p
      go true h = omega arith
      go false h = omega arith

  -- a line begins with the table, or behind a newline
  pub start_behind : (p : ℕ) → (line_start t p ≡ 0) ⊎ (get_or t (line_start t p - 1) 0 ≡ 10)
  unfolding line_start
  start_behind zero = inl refl
  start_behind (suc p) = go (eqb (get_or t p 0) 10) refl (start_behind p)
    where
      go : (x : Bool) → eqb (get_or t p 0) 10 ≡ x → (line_start t p ≡ 0) ⊎ (get_or t (line_start t p - 1) 0 ≡ 10) → (cond x (suc p) (line_start t p) ≡ 0) ⊎ (get_or t (cond x (suc p) (line_start t p) - 1) 0 ≡ 10)
      go true e r = let z : suc p - 1 ≡ p = omega arith in inr (rw z (eqb-true _ _ e))
      go false e r = r

  -- one byte more in front of the place
  front_more : (s p : ℕ) → s ≤ p → p < length t → take (suc p - s) (drop s t) ≡ take (p - s) (drop s t) ++ get_or t p 0 ∷ []
  front_more s p h k =
      let i : suc p - s ≡ suc (p - s) = omega arith in
      let j : p - s < length (drop s t) = omega (arith, length-drop s t) in
      let z : s + (p - s) ≡ p = omega arith in
      let g : get_or (drop s t) (p - s) 0 ≡ get_or t p 0 = get_or-drop s t (p - s) 0 ∙ rw z in
      rw (i, take-suc (drop s t) (p - s) 0 j, g)

  -- no newline stands between the line's beginning and the place
  pub front_clear : (p : ℕ) → p ≤ length t → has 10 (line_front t p) ≡ false
  unfolding line_front line_start has
  front_clear zero h = refl
  front_clear (suc p) h = go (eqb (get_or t p 0) 10) refl (front_clear p (omega arith))
    where
      go : (x : Bool) → eqb (get_or t p 0) 10 ≡ x → has 10 (take (p - line_start t p) (drop (line_start t p) t)) ≡ false → has 10 (take (suc p - cond x (suc p) (line_start t p)) (drop (cond x (suc p) (line_start t p)) t)) ≡ false
      go true e r = let z : suc p - suc p ≡ 0 = omega arith in rw z
      go false e r = let l : has 10 (get_or t p 0 ∷ []) ≡ false = rw e in rw (front_more (line_start t p) p (start_before p) h) (has_append 10 (take (p - line_start t p) (drop (line_start t p) t)) (get_or t p 0 ∷ []) r l)

  module _ (p : ℕ) (h : p ≤ length t) where
    -- the caret stands below the place's byte
    pub column_front : column t p ≡ suc (length (line_front t p))
    unfolding column line_front
    column_front = rw (part_length t (line_start t p) p h)

    -- the line is what stands before the place in it, and what stands from the place up to the next newline
    pub line_parts : physical_line t p ≡ line_front t p ++ take (lead 10 (drop p t)) (drop p t)
    unfolding physical_line line_front line_end
    line_parts =
        let b = start_before p in
        let n : p + lead 10 (drop p t) - line_start t p ≡ p - line_start t p + lead 10 (drop p t) = omega arith in
        let z : line_start t p + (p - line_start t p) ≡ p = omega arith in
        let d : drop (p - line_start t p) (drop (line_start t p) t) ≡ drop p t = drop-drop (p - line_start t p) (line_start t p) t ∙ rw z in
        ap (λ (k : ℕ). take k (drop (line_start t p) t)) n ∙ take-add (p - line_start t p) (lead 10 (drop p t)) (drop (line_start t p) t) ∙ ap (λ l. take (p - line_start t p) (drop (line_start t p) t) ++ take (lead 10 (drop p t)) l) d

    -- it is one line
    pub line_clear : has 10 (physical_line t p) ≡ false
    line_clear = rw line_parts (has_append 10 (line_front t p) (take (lead 10 (drop p t)) (drop p t)) (front_clear p h) (lead_clear 10 (drop p t)))

line_accepted : (b : ℕ) → accepted (shown_in Line b) ≡ true
unfolding shown_in accepted class_of blank letter digit printable
line_accepted b = go (accepted b) refl
  where
    go : (x : Bool) → accepted b ≡ x → accepted (cond x b 63) ≡ true
    go true e = e
    go false e = refl

caret_accepted : (b : ℕ) → accepted (shown_in Caret b) ≡ true
unfolding shown_in accepted class_of blank letter digit printable
caret_accepted b = go (eqb b 9) refl
  where
    go : (x : Bool) → eqb b 9 ≡ x → accepted (cond x b 32) ≡ true
    go true e = rw (eqb-true b 9 e)
    go false e = refl

-- what holds of each byte that is shown holds of all
all_shown : (holds : ℕ → Bool) (row : Row) → ((b : ℕ) → holds (shown_in row b) ≡ true) → (s : List ℕ) → list_all holds (map (shown_in row) s) ≡ true
all_shown holds row h [] = refl
all_shown holds row h (b ∷ s) = both_of (h b) (all_shown holds row h s)

-- a name or a question, whatever its bytes are, is shown without a control byte
pub name_clear : (name : List ℕ) → list_all (λ b. not (control b)) (shown_name name) ≡ true
unfolding shown_name shown_in
name_clear name = all_shown (λ b. not (control b)) Name clear name
  where
    clear : (b : ℕ) → not (control (shown_in Name b)) ≡ true
    clear b = go (control b) refl
      where
        go : (x : Bool) → control b ≡ x → not (control (cond x 63 b)) ≡ true
        go true e = refl
        go false e = rw e

-- no byte of a table can move a terminal's cursor: all that is printed of it are tabs, newlines and 0x20 to 0x7E
pub rows_accepted : (t : List ℕ) (p : ℕ) → list_all accepted (rows t p) ≡ true
unfolding rows accepted class_of blank letter digit printable
rows_accepted t p =
    let l = map (shown_in Line) (physical_line t p) in
    let f = map (shown_in Caret) (line_front t p) in
    all_append accepted (l ++ bytes "\n" ++ f) (bytes "^\n")
    ∙ both_of (all_append accepted (l ++ bytes "\n") f ∙ both_of (all_append accepted l (bytes "\n") ∙ both_of (all_shown accepted Line line_accepted (physical_line t p)) refl) (all_shown accepted Caret caret_accepted (line_front t p))) refl
