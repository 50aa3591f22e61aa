-- What the code finds of an alternative is what the judge says of it.
use Rattle.std.specs.Option.{option_map}
use Rattle.std.specs.Prelude.{None, Option, Some}
use mathlib.Core.Path.{◌≡◌, refl, ◌∙◌}
use mathlib.Core.Bool.{Bool, ◌&&◌}
use mathlib.Core.List.{List}
use Prim.Native.Nat.{ℕ}
use Rattle.question.specs.Contract.{strings_in}
use Rattle.matching.specs.Alternative.{Alternative, alternative_of}
use Rattle.condition.specs.declared.prefix.Asks.{Asks}
use Rattle.condition.specs.declared.prefix.Asks.TheVariants.{User, Group}
use Rattle.condition.specs.Users.{user_applies, group_applies}
use Rattle.condition.specs.Condition.{user, group, judge_of}
use Rattle.condition.specs.Contract.{sort_in, judge_by, name_applies, applies_by}

module _ (judging : Bool) (u : List ℕ) (gs : List (List ℕ)) (h : List ℕ) where
  user_judged : (o : Option Alternative) → option_map (λ a. judging && applies_by user u gs h a) o ≡ option_map (λ b. judging && b) (option_map (user_applies u h) o)
  unfolding applies_by name_applies user_applies
  user_judged None = refl
  user_judged (Some a) = refl

  group_judged : (o : Option Alternative) → option_map (λ a. judging && applies_by group u gs h a) o ≡ option_map (λ b. judging && b) (option_map (group_applies gs h) o)
  unfolding applies_by name_applies group_applies
  group_judged None = refl
  group_judged (Some a) = refl

module _ (judging : Bool) (u g h : List ℕ) (m : ℕ) (a : Asks) (e : List ℕ) {x : Option Bool} (q : x ≡ option_map (λ b. judging && applies_by (sort_in a) u (strings_in g) h b) (alternative_of e)) where
  pub judged_user : a ≡ User → x ≡ judge_by judging u g h m (sort_in a) e
  unfolding judge_by judge_of
  judged_user p = rw p ((rw p at q) ∙ user_judged judging u (strings_in g) h (alternative_of e))

  pub judged_group : a ≡ Group → x ≡ judge_by judging u g h m (sort_in a) e
  unfolding judge_by judge_of
  judged_group p = rw p ((rw p at q) ∙ group_judged judging u (strings_in g) h (alternative_of e))
