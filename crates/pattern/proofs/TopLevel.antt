-- The alternatives of the top level, one after the other as they stand. Assumes nothing.
use Rattle.std.specs.Prelude.{None, Ok, Option, Some}
use mathlib.Core.Path.{◌≡◌, refl, sym, ap, ◌∙◌}
use mathlib.Core.Bool.{false}
use mathlib.Core.List.{List, [], ◌++◌, append-nil}
use Prim.Native.Nat.{ℕ, ◌+◌, ◌≤◌, ◌<◌}
use native.Mathlib.Omega.{arith}
use native.Mathlib.Decide.{dec_le}
use borrow.Author.Tests.{ne_eqb}
use lib.ListN.{length, drop, get_or, drop_of_length-le, length-drop}
use Rattle.text.specs.Contract.{Wrote}
use Rattle.text.proofs.Laws.{next}
use Rattle.text.proofs.Buffers.{up_full}
use Rattle.pattern.specs.declared.Syntax.{Syntax}
use Rattle.pattern.specs.declared.alternatives.Alternative.{Alternative}
use Rattle.pattern.specs.declared.alternatives.Alternative.TheVariants.{Flat, Braced}
use Rattle.pattern.specs.Tree.{Tree, or, number, expansions, TreeRead, parsed, malformed, bind, after_one, pattern_of, list_of, expanded}
use Rattle.pattern.specs.Whole.{expansions_of}
use Rattle.pattern.specs.Contract.{chosen, HasNumber, expansions_in, EndsBefore, end_told, Few, AlternativeAt}
use Rattle.pattern.proofs.TreeLaws.{list_first}
use Rattle.pattern.proofs.Expansions.{counts, nth_is}
use Rattle.pattern.proofs.Alone.{never_closes}
use Rattle.pattern.proofs.Lengths.{alternative_room}
use Rattle.pattern.proofs.WholeLaws.{fits_few, good, expansions_are}

-- ---- one expansion of an alternative
pub chosen_is : (o : TreeRead) (n k : ℕ) → HasNumber o n → k < n → get_or (expansions_in o) k [] ≡ chosen k o
unfolding expansions_in
chosen_is (parsed t r) n k h g = sym (nth_is t k (omega arith))
chosen_is malformed n k h g = absurd h

pub numbers_are : (o : TreeRead) (n : ℕ) → HasNumber o n → n ≡ length (expansions_in o)
unfolding expansions_in
numbers_are (parsed t r) n h = h ∙ counts t
numbers_are malformed n h = absurd h

pub never_full_at : (syntax : Syntax) (p : List ℕ) (at n k : ℕ) {old new : List ℕ} {r : Option ℕ} → HasNumber (pattern_of syntax false (drop at p)) n → k < n
    → Wrote old new 0 (get_or (expansions_in (pattern_of syntax false (drop at p))) k []) r → length p ≤ length old → r ≡ None → ⊥
unfolding expansions_in
never_full_at syntax p at n k {old} {new} {r} h g w l e =
    let f = up_full (length old) (0 + length (get_or (expansions_in (pattern_of syntax false (drop at p))) k [])) (sym w.answer ∙ e) in
    omega (arith, f, short (pattern_of syntax false (drop at p)) refl h, length-drop at p)
  where
    short : (o : TreeRead) → pattern_of syntax false (drop at p) ≡ o → HasNumber o n → length (get_or (expansions_in o) k []) ≤ length (drop at p)
    short (parsed t r) q h = rw (← (nth_is t k (omega arith))) (alternative_room syntax false (drop at p) t r k q)
    short malformed q h = absurd h

-- ---- a list without a fault: the alternative at its beginning, and those behind the comma
-- the alternative from `at` on has the expansions es and ends before e
pub record First (syntax : Syntax) (p : List ℕ) (at e : ℕ) (es : List (List ℕ)) : Type 0 where
  pub low : at ≤ e
  pub high : e ≤ length p
  pub rest : List (List ℕ)
  pub all : expansions_in (list_of syntax false (drop at p)) ≡ es ++ rest
  pub last : length p ≤ e → rest ≡ []
  pub more : e < length p → (rest ≡ expansions_in (list_of syntax false (drop (e + 1) p))) × Few (list_of syntax false (drop (e + 1) p))

or_parts : (a : Tree) (o : TreeRead) → Few (bind o (λ b r. parsed (or a b) r)) → (number a ≤ 64) × Few o × (expansions_in (bind o (λ b r. parsed (or a b) r)) ≡ expansions a ++ expansions_in o)
unfolding number expansions expansions_in
or_parts a (parsed b r) h = (omega arith, omega arith, refl)
or_parts a malformed h = absurd h

module _ (syntax : Syntax) (p : List ℕ) (at : ℕ) (few : Few (list_of syntax false (drop at p))) where
  pub no_alternative : pattern_of syntax false (drop at p) ≡ malformed → ⊥
  no_alternative q = rw (list_first syntax false (drop at p), q) at few

  module _ (e : ℕ) (w : EndsBefore p at e (pattern_of syntax false (drop at p))) where
    abbrev Firsts : Type 0
    Firsts = (number w.tree ≤ 64) × First syntax p at e (expansions w.tree)

    list_is : list_of syntax false (drop at p) ≡ after_one (list_of syntax false) false w.tree (drop e p)
    list_is = list_first syntax false (drop at p) ∙ rw w.is

    ends : length p ≤ e → Firsts
    unfolding expansions_in
    ends h =
        let q : list_of syntax false (drop at p) ≡ parsed w.tree [] = list_is ∙ rw (drop_of_length-le p h) in
        let f = rw q at few in
        (f, record { low = w.low; high = w.high; rest = []; all = rw q (sym (append-nil (expansions w.tree))); last = λ g. refl; more = λ g. absurd (omega arith) })

    goes_on : e < length p → Firsts
    goes_on h =
        let n = never_closes syntax (drop at p) w.tree (get_or p e 0) (drop (e + 1) p) (w.is ∙ rw (next p e h)) in
        let q : list_of syntax false (drop at p) ≡ bind (list_of syntax false (drop (e + 1) p)) (λ b r. parsed (or w.tree b) r) = list_is ∙ rw (next p e h, ne_eqb _ _ n) in
        let f = or_parts w.tree (list_of syntax false (drop (e + 1) p)) (rw q at few) in
        (f.0, record { low = w.low; high = w.high; rest = expansions_in (list_of syntax false (drop (e + 1) p)); all = ap expansions_in q ∙ f.2; last = λ g. absurd (omega arith); more = λ g. (refl, f.1) })

    firsts : Firsts
    firsts = elim (dec_le (length p) e) [ yes h ↦ ends h | no h ↦ goes_on (omega arith) ]

  pub first_told : (a : Alternative) → AlternativeAt p at (Some a) (pattern_of syntax false (drop at p)) → First syntax p at (end_told a) (expansions_in (pattern_of syntax false (drop at p)))
  unfolding expansions_in
  first_told (Flat e) w = rw w.0.is (firsts e w.0).1
  first_told (Braced e n) w = rw w.0.is (firsts e w.0).1

  module _ (e n : ℕ) (w : AlternativeAt p at (Some (Braced e n)) (pattern_of syntax false (drop at p))) where
    pub braced_few : n ≤ 64
    braced_few = omega (arith, (firsts e w.0).0, w.1)

    pub braced_numbers : HasNumber (pattern_of syntax false (drop at p)) n
    braced_numbers = rw w.0.is (omega (arith, (firsts e w.0).0, w.1))

-- ---- a whole pattern without a fault
module _ (syntax : Syntax) (p : List ℕ) {es : List (List ℕ)} (e : expanded syntax p ≡ Ok es) where
  pub whole_few : Few (list_of syntax false (drop 0 p))
  whole_few = let g = good syntax p es e in rw g.is_list (fits_few g.tree g.fit)

  pub whole_all : expansions_in (list_of syntax false (drop 0 p)) ≡ expansions_of syntax p
  unfolding expansions_in
  whole_all = let g = good syntax p es e in rw g.is_list (sym g.all ∙ sym (expansions_are syntax p es e))

  pub expanded_again : expanded syntax p ≡ Ok (expansions_of syntax p)
  expanded_again = e ∙ ap Ok (sym (expansions_are syntax p es e))
