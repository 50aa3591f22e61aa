-- Lines that are put one after the other, each with its newline, are the lines of that text. Assumes nothing.
use mathlib.Core.Path.{◌≡◌, refl, ap, ◌∙◌}
use mathlib.Core.Bool.{Bool, true, false}
use mathlib.Core.List.{List, [], ◌∷◌, ◌++◌}
use Prim.Native.Nat.{ℕ}
use borrow.Author.Tests.{eqb-true}
use Rattle.text.specs.Bytes.{is}
use Rattle.text.proofs.Laws.{both_true}
use Rattle.text.specs.Lists.{with_byte}
use Rattle.line.specs.Line.{ends_line, ended_lines, put_lines}

-- for bytes that continue a line over a newline, of which a newline is none
module _ (continues : ℕ → Bool) (plain : continues 10 ≡ false) where
  -- a line that its newline ends, whatever follows
  abbrev pub Ended : Bool → List ℕ → Type 0
  Ended after l = (s : List ℕ) → ended_lines continues after (l ++ 10 ∷ s) ≡ l ∷ ended_lines continues false s

  abbrev pub EachEnded : Bool → List (List ℕ) → Type 0
  EachEnded after [] = Unit {0}
  EachEnded after (l ∷ ls) = Ended after l × EachEnded false ls

  -- so are the lines of every text
  pub lines_ended : (after : Bool) (t : List ℕ) → EachEnded after (ended_lines continues after t)
  unfolding ended_lines
  lines_ended after [] = tt
  lines_ended after (b ∷ t) = by (ends_line after b) refl (ended_lines continues (continues b) t) (lines_ended (continues b) t)
    where
      by : (x : Bool) → ends_line after b ≡ x → (ls : List (List ℕ)) → EachEnded (continues b) ls → EachEnded after (with_byte x b ls)
      by true e ls k =
          let z : b ≡ 10 = eqb-true b 10 (both_true (is "\n" b) _ e).0 in
          let f : ends_line after 10 ≡ true = rw z at e in
          (λ s. rw (f, plain), rw (z, plain) at k)
      by false e [] k = tt
      by false e (l ∷ ls) k = (λ s. rw (e, k.0 s), k.1)

  pub ended_put : (ls : List (List ℕ)) → EachEnded false ls → ended_lines continues false (put_lines ls) ≡ ls
  unfolding ended_lines put_lines
  ended_put [] k = refl
  ended_put (l ∷ ls) k = k.0 (put_lines ls) ∙ ap (λ (rs : List (List ℕ)). l ∷ rs) (ended_put ls k.1)
