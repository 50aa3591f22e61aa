-- A whole entry by what is kept of it: whether it is complete, whether it accepts, and its path.
use Rattle.std.specs.Option.{is_some, option_map, unwrap_or}
use Rattle.std.specs.Prelude.{None, Some, Err, Ok}
use Rattle.std.specs.Str.{bytes_eq}
use mathlib.Core.Path.{◌≡◌, refl, sym, ap, ◌∙◌}
use mathlib.Core.Bool.{Bool, true, false, not, cond, ◌&&◌}
use mathlib.Core.List.{List, [], ◌∷◌}
use Prim.Native.Nat.{ℕ}
use Rattle.text.specs.Bytes.{bytes}
use Rattle.text.specs.Lists.{null}
use Rattle.text.proofs.Laws.{both_no}
use Rattle.fault.specs.declared.Cause.TheVariants.{MissingPart, OptionTwice}
use Rattle.matching.specs.Whole.{matches_some}
use Rattle.options.specs.Contract.{line_of}
use Rattle.condition.specs.Rightmost.{Judged}
use Rattle.condition.specs.Users.{users_accept}
use Rattle.condition.specs.Times.{times_accept}
use Rattle.condition.proofs.RightmostLaws.{users_said, times_said, any_kept}
use Rattle.entry.specs.Field.{Pair, Entry}
use Rattle.entry.specs.Entry.{completed, conditions_accept}
use Rattle.entry.specs.Path.{starred, path_for}
use Rattle.entry.specs.Contract.{taken, first_path, masked, path_at, path_in, given, Keeps, outcome_of}
use Rattle.entry.specs.declared.entry.Entry.{Entry as Kept}
use Rattle.entry.specs.declared.entry.PathPlace.{PathPlace}

masked_null : (m : Bool) (xs : List Judged) → null (masked m xs) ≡ null xs
masked_null m [] = refl
masked_null m (x ∷ xs) = refl

masked_all : (xs : List Judged) → masked true xs ≡ xs
masked_all [] = refl
masked_all (x ∷ xs) = rw (masked_all xs)

-- the path of the leftmost pair that matches, with the command put in
for_first : (command : List ℕ) (ps : List Pair) → path_for command ps ≡ option_map (starred command) (first_path (taken true command) ps)
unfolding path_for first_path
for_first command [] = refl
for_first command (p ∷ ps) = go (matches_some p.expansions command) (for_first command ps)
  where
    go : (b : Bool) → path_for command ps ≡ option_map (starred command) (first_path (taken true command) ps)
        → cond b (Some (starred command p.path)) (path_for command ps) ≡ option_map (starred command) (cond b (Some p.path) (first_path (taken true command) ps))
    go true e = refl
    go false e = e

module _ {j : Bool} {c : List ℕ} {t : ℕ → List ℕ} {k : Kept} {e : Entry} (h : Keeps j c t k e) where
  user_kept : k.users.some ≡ not (null e.users)
  user_kept = rw h.users (any_kept (masked (is_some k.path) e.users) ∙ ap not (masked_null (is_some k.path) e.users))

  pub unpaired : k.paired ≡ false → Err MissingPart ≡ outcome_of (completed e)
  unfolding completed
  unpaired f = rw (sym h.paired ∙ f)

  module _ (f : k.paired ≡ true) where
    pub userless : k.users.some ≡ false → Err MissingPart ≡ outcome_of (completed e)
    unfolding completed
    userless g = rw (sym h.paired ∙ f, sym user_kept ∙ g)

    module _ (g : k.users.some ≡ true) where
      pub doubled : {b : Bool} → b ≡ k.options.twice → b ≡ true → Err OptionTwice ≡ outcome_of (completed e)
      unfolding completed line_of
      doubled a b = rw (sym h.paired ∙ f, sym user_kept ∙ g, sym (ap (λ o. o.twice) h.options) ∙ sym a ∙ b)

      pub complete : {b : Bool} → b ≡ k.options.twice → b ≡ false → (Ok tt) ≡ outcome_of (completed e)
      unfolding completed line_of
      complete a b = rw (sym h.paired ∙ f, sym user_kept ∙ g, sym (ap (λ o. o.twice) h.options) ∙ sym a ∙ b)

module _ {c : List ℕ} {t : ℕ → List ℕ} {k : Kept} {e : Entry} (h : Keeps true c t k e) where
  -- where the path of the pair that matches stands
  pub path_kept : path_for c e.pairs ≡ option_map (starred c) (path_in t k)
  path_kept = for_first c e.pairs ∙ ap (option_map (starred c)) (sym h.path)

  pub unmatched : (user : List ℕ) → k.path ≡ None → given (path_for c e.pairs) && conditions_accept user e ≡ false
  unmatched user f = rw (path_kept, f)

  module _ (user : List ℕ) {w : PathPlace} (f : k.path ≡ Some w) where
    users_kept_say : {d b : Bool} → d ≡ bytes_eq user (bytes "root") → b ≡ unwrap_or k.users.said d → b ≡ users_accept user e.users
    unfolding users_accept
    users_kept_say q g = g ∙ rw (q, h.users, f, masked_all e.users) (users_said e.users (bytes_eq user (bytes "root")))

    times_kept_say : {b : Bool} → b ≡ unwrap_or k.times.said k.times.negated → b ≡ times_accept e.times
    times_kept_say g = g ∙ rw (h.times, f, masked_all e.times) (times_said e.times)

    pub users_refuse : {d b : Bool} → d ≡ bytes_eq user (bytes "root") → b ≡ unwrap_or k.users.said d → b ≡ false → given (path_for c e.pairs) && conditions_accept user e ≡ false
    unfolding conditions_accept
    users_refuse q g z = rw (sym (users_kept_say q g) ∙ z) (both_no (given (path_for c e.pairs)))

    pub times_refuse : {r : Bool} → r ≡ unwrap_or k.times.said k.times.negated → r ≡ false → given (path_for c e.pairs) && conditions_accept user e ≡ false
    unfolding conditions_accept
    times_refuse g z = rw (sym (times_kept_say g) ∙ z, both_no (users_accept user e.users)) (both_no (given (path_for c e.pairs)))

    pub accepted : {d b r : Bool} → d ≡ bytes_eq user (bytes "root") → b ≡ unwrap_or k.users.said d → b ≡ true → r ≡ unwrap_or k.times.said k.times.negated → r ≡ true → (path_for c e.pairs ≡ Some (starred c (path_at t w))) × (conditions_accept user e ≡ true)
    unfolding conditions_accept
    accepted q g z v y = (path_kept ∙ rw f, rw (sym (users_kept_say q g) ∙ z, sym (times_kept_say v) ∙ y))
