-- What is kept of the alternatives is what the rule asks of them; the rule over two runs, one behind the other.
use Rattle.std.specs.Option.{option_or, unwrap_or}
use Rattle.std.specs.Prelude.{Option}
use Rattle.std.specs.List.{list_all}
use mathlib.Core.Path.{◌≡◌, refl, sym, ◌∙◌}
use mathlib.Core.Bool.{Bool, not, ◌&&◌, ◌||◌}
use mathlib.Core.List.{List, [], ◌∷◌, ◌++◌}
use Rattle.text.specs.Lists.{null}
use Rattle.text.proofs.Laws.{both_assoc, both_yes, either_no, either_yes, else_assoc, else_none}
use Rattle.condition.specs.declared.rightmost.Rightmost.{Rightmost}
use Rattle.condition.specs.Rightmost.{Judged, said_by, rightmost}
use Rattle.condition.specs.Times.{times_accept}
use Rattle.condition.specs.Contract.{none_kept, added, added_all}

-- "The rightmost alternative that applies decides": the right run where any of it applies, else the left
pub rightmost_append : (xs ys : List Judged) → rightmost (xs ++ ys) ≡ option_or (rightmost ys) (rightmost xs)
unfolding rightmost
rightmost_append [] ys = sym (else_none (rightmost ys))
rightmost_append (x ∷ xs) ys = rw (rightmost_append xs ys) (else_assoc (rightmost ys) (rightmost xs) (said_by x))

-- what is kept after some alternatives: what the last that applied said, whether all are negated, and whether there is any
pub record Keeps (r t : Rightmost) (xs : List Judged) : Type 0 where
  pub says : t.said ≡ option_or (rightmost xs) r.said
  pub negated : t.negated ≡ r.negated && list_all (λ x. x.negated) xs
  pub present : t.some ≡ r.some || not (null xs)

pub keeps : (r : Rightmost) (xs : List Judged) → Keeps r (added_all r xs) xs
unfolding added_all rightmost
keeps r [] = record { says = refl; negated = sym (both_yes r.negated); present = sym (either_no r.some) }
keeps r (x ∷ xs) =
    let k = keeps (added r x) xs in
    record {
      says = k.says ∙ sym (else_assoc (rightmost xs) (said_by x) r.said);
      negated = k.negated ∙ both_assoc r.negated x.negated (list_all (λ y. y.negated) xs);
      present = k.present ∙ sym (either_yes r.some);
    }

-- the rule for users and the rule for times, by what is kept
pub said_is : (xs : List Judged) → (added_all none_kept xs).said ≡ rightmost xs
said_is xs = (keeps none_kept xs).says ∙ else_none (rightmost xs)

pub users_said : (xs : List Judged) (d : Bool) → unwrap_or (added_all none_kept xs).said d ≡ unwrap_or (rightmost xs) d
users_said xs d = rw (said_is xs)

pub times_said : (xs : List Judged) → unwrap_or (added_all none_kept xs).said (added_all none_kept xs).negated ≡ times_accept xs
unfolding times_accept
times_said xs = rw (said_is xs, (keeps none_kept xs).negated)

pub any_kept : (xs : List Judged) → (added_all none_kept xs).some ≡ not (null xs)
any_kept xs = (keeps none_kept xs).present

-- alternatives added one run after the other
pub added_append : (r : Rightmost) (xs ys : List Judged) → added_all r (xs ++ ys) ≡ added_all (added_all r xs) ys
unfolding added_all
added_append r [] ys = refl
added_append r (x ∷ xs) ys = added_append (added r x) xs ys
