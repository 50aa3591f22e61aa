-- The laws of matching, one expansion after the other. Assumes nothing.
use Rattle.std.specs.Prelude.{Err, Ok}
use mathlib.Core.Path.{◌≡◌, sym, ap, ◌∙◌}
use mathlib.Core.Bool.{true, false}
use mathlib.Core.List.{List, [], ◌∷◌}
use Prim.Native.Nat.{ℕ, ◌+◌, ◌≤◌, ◌<◌}
use borrow.Author.Tests.{le-leb, lt-leb}
use lib.ListN.{length, drop}
use Rattle.text.specs.Limits.{field_limit}
use Rattle.text.proofs.Laws.{either_no}
use Rattle.text.proofs.Lists.{any_on, any_off, any_end}
use Rattle.fault.specs.declared.Cause.{Cause}
use Rattle.glob.specs.Match.{matches}
use Rattle.pattern.specs.declared.Syntax.{Syntax}
use Rattle.pattern.specs.Tree.{expanded}
use Rattle.pattern.specs.Whole.{expansions_of}
use Rattle.pattern.specs.Contract.{expansion_at}
use Rattle.pattern.proofs.WholeLaws.{expansions_are}
use Rattle.matching.specs.Whole.{matches_some, field_expansions, matches_pattern}

-- one expansion alone
pub matches_alone : (e s : List ℕ) → matches e s ≡ matches_some (e ∷ []) s
unfolding matches_some
matches_alone e s = sym (either_no (matches e s))

module _ (syntax : Syntax) (p s : List ℕ) where
  -- ---- from the k-th expansion on
  module _ (k : ℕ) where
    pub some_on : k < length (expansions_of syntax p) → matches (expansion_at syntax p k) s ≡ false → matches_some (drop (k + 1) (expansions_of syntax p)) s ≡ matches_some (drop k (expansions_of syntax p)) s
    unfolding matches_some expansion_at
    some_on h e = any_on [] (λ x. matches x s) (expansions_of syntax p) k h e

    pub some_hit : k < length (expansions_of syntax p) → matches (expansion_at syntax p k) s ≡ true → true ≡ matches_some (drop k (expansions_of syntax p)) s
    unfolding matches_some expansion_at
    some_hit h e = any_off [] (λ x. matches x s) (expansions_of syntax p) k h e

    pub some_end_law : length (expansions_of syntax p) ≤ k → false ≡ matches_some (drop k (expansions_of syntax p)) s
    unfolding matches_some
    some_end_law h = any_end (λ x. matches x s) (expansions_of syntax p) k h

  -- ---- a pattern that a field can hold
  pub long_matches : field_limit < length p → false ≡ matches_pattern syntax p s
  unfolding matches_pattern field_expansions matches_some
  long_matches h = rw (lt-leb _ _ h)

  module _ (h : length p ≤ field_limit) where
    pub fault_matches : {c : Cause} → expanded syntax p ≡ Err c → false ≡ matches_pattern syntax p s
    unfolding matches_pattern field_expansions expansions_of matches_some
    fault_matches e = rw (le-leb _ _ h, e)

    pub field_matches : matches_some (expansions_of syntax p) s ≡ matches_pattern syntax p s
    unfolding matches_pattern field_expansions
    field_matches = rw (le-leb _ _ h)

    pub matches_are : {es : List (List ℕ)} → expanded syntax p ≡ Ok es → matches_pattern syntax p s ≡ matches_some es s
    matches_are e = sym field_matches ∙ ap (λ xs. matches_some xs s) (expansions_are syntax p _ e)
