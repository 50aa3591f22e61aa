-- What is kept of an entry's fields, field by field.
use Rattle.std.specs.Option.{is_some, option_or, option_map}
use Rattle.std.specs.Prelude.{None, Option, Some}
use mathlib.Core.Path.{◌≡◌, refl, sym, ◌∙◌}
use mathlib.Core.Bool.{Bool, true, false, not, cond}
use mathlib.Core.List.{List, [], ◌∷◌, ◌++◌, append-nil}
use Prim.Native.Nat.{ℕ}
use lib.ListN.{drop}
use Rattle.text.specs.Lists.{null}
use Rattle.options.specs.Read.{Setting}
use Rattle.options.specs.Contract.{noted}
use Rattle.options.specs.declared.line.LineOptions.{LineOptions}
use Rattle.options.proofs.LineLaws.{line_more}
use Rattle.condition.specs.declared.rightmost.Rightmost.{Rightmost}
use Rattle.condition.specs.Rightmost.{Judged}
use Rattle.condition.specs.Contract.{none_kept, added_all}
use Rattle.condition.proofs.RightmostLaws.{added_append}
use Rattle.entry.specs.Field.{Pair, Entry, entry, no_field, followed, a_pair}
use Rattle.entry.specs.Contract.{taken, first_path, paired_with, waiting_with, rest_with, masked, place, path_at, NoOther, Keeps}
use Rattle.entry.specs.declared.position.Position.{Position as CodePosition}
use Rattle.entry.specs.declared.entry.Entry.{Entry as Kept}
use Rattle.entry.specs.declared.entry.PathPlace.{PathPlace}

-- ---- the leftmost pair that is taken, with one more pair
first_more : (f : List (List ℕ) → Bool) (ps : List Pair) (q : Pair) → first_path f (ps ++ (q ∷ [])) ≡ option_or (first_path f ps) (cond (f q.expansions) (Some q.path) None)
unfolding first_path
first_more f [] q = refl
first_more f (p ∷ ps) q = go (f p.expansions) (first_more f ps q)
  where
    go : (b : Bool) → first_path f (ps ++ (q ∷ [])) ≡ option_or (first_path f ps) (cond (f q.expansions) (Some q.path) None)
        → cond b (Some p.path) (first_path f (ps ++ (q ∷ []))) ≡ option_or (cond b (Some p.path) (first_path f ps)) (cond (f q.expansions) (Some q.path) None)
    go true e = refl
    go false e = e

path_more : (t : ℕ → List ℕ) (o : Option PathPlace) (m : Bool) (i at : ℕ) → option_map (path_at t) (option_or o (place m i at)) ≡ option_or (option_map (path_at t) o) (cond m (Some (drop at (t i))) None)
path_more t None true i at = refl
path_more t None false i at = refl
path_more t (Some w) m i at = refl

null_more : (ps : List Pair) (q : Pair) → true ≡ not (null (ps ++ (q ∷ [])))
null_more [] q = refl
null_more (p ∷ ps) q = refl

-- ---- alternatives that are heard where something is judged
masked_append : (m : Bool) (xs ys : List Judged) → masked m (xs ++ ys) ≡ masked m xs ++ masked m ys
masked_append m [] ys = refl
masked_append m (x ∷ xs) ys = rw (masked_append m xs ys)

added_more : (m : Bool) (xs ys : List Judged) (k r : Rightmost) → k ≡ added_all none_kept (masked m xs) → r ≡ added_all k (masked m ys) → r ≡ added_all none_kept (masked m (xs ++ ys))
added_more m xs ys k r e f = f ∙ rw (masked_append m xs ys, e) (sym (added_append none_kept (masked m xs) (masked m ys)))

none_added : (m n : Bool) (xs : List Judged) (k : Rightmost) → xs ≡ [] → k ≡ added_all none_kept (masked m xs) → k ≡ added_all none_kept (masked n (xs ++ []))
none_added m n xs k e f = rw e (rw e at f)

same_added : (m : Bool) (xs : List Judged) (k : Rightmost) → k ≡ added_all none_kept (masked m xs) → k ≡ added_all none_kept (masked m (xs ++ []))
same_added m xs k f = rw (append-nil xs) f

-- ---- each way of adding a field
module _ {j : Bool} {c : List ℕ} {t : ℕ → List ℕ} {k : Kept} {e : Entry} (h : Keeps j c t k e) where
  pub pair_kept : NoOther e → (es : List (List ℕ)) (x : List ℕ) (m : Bool) (i at : ℕ) (next : CodePosition) → m ≡ taken j c es → drop at (t i) ≡ x → Keeps j c t (paired_with k (place m i at) next) (followed e (a_pair es x))
  unfolding followed
  pair_kept n es x m i at next g f = record {
    paired = null_more e.pairs (record { expansions = es; path = x });
    path = path_more t k.path m i at ∙ rw (h.path, g, f) (sym (first_more (taken j c) e.pairs (record { expansions = es; path = x })));
    users = none_added (is_some k.path) (is_some (option_or k.path (place m i at))) e.users k.users n.0 h.users;
    times = none_added (is_some k.path) (is_some (option_or k.path (place m i at))) e.times k.times n.1 h.times;
    options = rw (append-nil e.settings) h.options;
  }

  pub command_kept : (m : Bool) → Keeps j c t (waiting_with k m) (followed e no_field)
  unfolding followed no_field
  command_kept m = record {
    paired = rw (append-nil e.pairs) h.paired;
    path = rw (append-nil e.pairs) h.path;
    users = same_added (is_some k.path) e.users k.users h.users;
    times = same_added (is_some k.path) e.times k.times h.times;
    options = rw (append-nil e.settings) h.options;
  }

  pub option_kept : (s : Setting) (o : LineOptions) → o ≡ noted k.options s → Keeps j c t (rest_with k k.users k.times o) (followed e (entry [] [] [] (s ∷ [])))
  unfolding followed
  option_kept s o f = record {
    paired = rw (append-nil e.pairs) h.paired;
    path = rw (append-nil e.pairs) h.path;
    users = same_added (is_some k.path) e.users k.users h.users;
    times = same_added (is_some k.path) e.times k.times h.times;
    options = f ∙ rw h.options (line_more e.settings s);
  }

  pub users_kept : (xs : List Judged) (r : Rightmost) → r ≡ added_all k.users (masked (is_some k.path) xs) → Keeps j c t (rest_with k r k.times k.options) (followed e (entry [] xs [] []))
  unfolding followed
  users_kept xs r f = record {
    paired = rw (append-nil e.pairs) h.paired;
    path = rw (append-nil e.pairs) h.path;
    users = added_more (is_some k.path) e.users xs k.users r h.users f;
    times = same_added (is_some k.path) e.times k.times h.times;
    options = rw (append-nil e.settings) h.options;
  }

  pub times_kept : (xs : List Judged) (r : Rightmost) → r ≡ added_all k.times (masked (is_some k.path) xs) → Keeps j c t (rest_with k k.users r k.options) (followed e (entry [] [] xs []))
  unfolding followed
  times_kept xs r f = record {
    paired = rw (append-nil e.pairs) h.paired;
    path = rw (append-nil e.pairs) h.path;
    users = same_added (is_some k.path) e.users k.users h.users;
    times = added_more (is_some k.path) e.times xs k.times r h.times f;
    options = rw (append-nil e.settings) h.options;
  }
