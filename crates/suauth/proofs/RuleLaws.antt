-- What a line tells to a question, by its parts.
use Rattle.std.proofs.Common.{◌≡◌, ℕ, List, [], ◌∷◌, Bool, true, false, ◌&&◌, ◌||◌, cond, None, Some, Option, Ok, Err, Result, refl, sym, ap}
use Rattle.std.specs.Iterator.{AlwaysYields}
use Rattle.std.specs.List.{slice_split}
use Rattle.std.specs.Option.{MatchOption}
use Rattle.std.proofs.lemmas.Iterator.{YieldsList}
use Rattle.text.specs.Bytes.{is}
use Rattle.text.specs.Lists.{null}
use Rattle.text.specs.Slice.{head_is}
use Rattle.fault.specs.Fault.{needed}
use Rattle.suauth.specs.declared.Action.{Action}
use Rattle.suauth.specs.declared.rule.Malformed.{Malformed}
use Rattle.suauth.specs.Rule.{Ids, Rule, malformed, ids_in, action_in, rule_of, parts_rule, text_rule}
use Rattle.suauth.specs.Meaning.{Question, applies}
use Rattle.suauth.specs.Contract.{ids_told, line_tells}

-- what a rule tells, by what its sides tell and its action
abbrev pub told_by : Option Bool → Option Bool → Option Action → Result (Option Action) Malformed
told_by x y a = needed malformed x (λ to. needed malformed y (λ from. needed malformed a (λ b. Ok (cond (to && from) (Some b) None))))

pub rule_told : (q : Question) (to from action : List ℕ) → line_tells q (rule_of to from action) ≡ told_by (ids_told q.target [] (ids_in false to)) (ids_told q.user q.groups (ids_in true from)) (action_in action)
unfolding rule_of line_tells applies
rule_told q to from action = go (ids_in false to) (ids_in true from) (action_in action)
  where
    go : (i j : Option Ids) (a : Option Action) → line_tells q (needed malformed i (λ t. needed malformed j (λ f. needed malformed a (λ b. Ok (Some (record { to = t; from = f; action = b })))))) ≡ told_by (ids_told q.target [] i) (ids_told q.user q.groups j) a
    go None j a = refl
    go (Some i) None a = refl
    go (Some i) (Some j) None = refl
    go (Some i) (Some j) (Some a) = refl

-- ---- a text: empty, a comment, or the parts between its colons
pub text_skipped : (q : Question) (s : List ℕ) → null s || head_is 35 s ≡ true → Ok None ≡ line_tells q (text_rule s)
unfolding line_tells text_rule
text_skipped q s h = rw h

pub text_parts : (s : List ℕ) → null s ≡ false → head_is 35 s ≡ false → text_rule s ≡ parts_rule (slice_split (is ":") s)
unfolding text_rule
text_parts s h k = rw (h, k)

-- the parts that an iterator gives, one after the other
module _ {S A : Type 0} (steps : S → Option A → S → Type 0) (v : A → List ℕ) where
  taken : (all : List (List ℕ)) (s t : S) (r : Option A) → AlwaysYields steps v s all → steps s r t → MatchOption r (all ≡ []) (λ x. (more : List (List ℕ)) × (all ≡ v x ∷ more) × AlwaysYields steps v t more)
  taken [] s t None g p = refl
  taken [] s t (Some x) g p = absurd (g x t p)
  taken (y ∷ ys) s t None g p = absurd (g.0 t p)
  taken (y ∷ ys) s t (Some x) g p = (ys, ap (λ z. z ∷ ys) (sym (g.1 x t p).0), (g.1 x t p).1)

  pub no_part : {all : List (List ℕ)} (s t : S) → YieldsList steps v s all → steps s None t → parts_rule all ≡ Err malformed
  no_part {all} s t road a = rw (taken all s t None road.runs a)

  module _ {all : List (List ℕ)} (s s1 s2 : S) (road : YieldsList steps v s all) (x : A) (a : steps s (Some x) s1) where
    first : (more : List (List ℕ)) × (all ≡ v x ∷ more) × AlwaysYields steps v s1 more
    first = taken all s s1 (Some x) road.runs a

    pub one_part : steps s1 None s2 → parts_rule all ≡ Err malformed
    one_part b = rw (first.1, taken first.0 s1 s2 None first.2 b)

    module _ (y : A) (b : steps s1 (Some y) s2) (s3 : S) where
      second : (more : List (List ℕ)) × (first.0 ≡ v y ∷ more) × AlwaysYields steps v s2 more
      second = taken first.0 s1 s2 (Some y) first.2 b

      pub two_parts : steps s2 None s3 → parts_rule all ≡ Err malformed
      two_parts c = rw (first.1, second.1, taken second.0 s2 s3 None second.2 c)

      module _ (z : A) (c : steps s2 (Some z) s3) where
        third : (more : List (List ℕ)) × (second.0 ≡ v z ∷ more) × AlwaysYields steps v s3 more
        third = taken second.0 s2 s3 (Some z) second.2 c

        pub three_parts : (s4 : S) → steps s3 None s4 → parts_rule all ≡ rule_of (v x) (v y) (v z)
        three_parts s4 d = rw (first.1, second.1, third.1, taken third.0 s3 s4 None third.2 d)

        pub four_parts : (s4 : S) (u : A) → steps s3 (Some u) s4 → parts_rule all ≡ Err malformed
        four_parts s4 u d = rw (first.1, second.1, third.1, (taken third.0 s3 s4 (Some u) third.2 d).1)
