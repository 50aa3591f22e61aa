-- What each field adds to an entry, by what is read of it.
use Rattle.std.specs.Prelude.{Err, None, Ok, Option, Result, Some}
use Rattle.std.specs.Option.{is_some}
use Rattle.std.specs.List.{list_any}
use mathlib.Core.Path.{◌≡◌, refl, ◌∙◌}
use mathlib.Core.Bool.{Bool, true, false, not, ◌&&◌}
use mathlib.Core.List.{List, [], ◌∷◌}
use Prim.Native.Nat.{ℕ, ◌+◌, ◌≤◌, ◌<◌}
use borrow.Author.Tests.{le-leb, lt-leb}
use lib.Dec.{leb}
use lib.ListN.{length, drop, take}
use Rattle.text.specs.Bytes.{byte}
use Rattle.text.specs.Class.{blank}
use Rattle.text.specs.Slice.{head_is, find_pair}
use Rattle.text.proofs.Laws.{clash}
use Rattle.fault.specs.Fault.{and_then, require}
use Rattle.fault.specs.declared.Cause.{Cause}
use Rattle.fault.specs.declared.Cause.TheVariants.{LatePair, Path, FieldLength}
use Rattle.pattern.specs.declared.Syntax.TheVariants.{Plain}
use Rattle.pattern.specs.Tree.{expanded}
use Rattle.options.specs.Read.{Setting, option_of}
use Rattle.options.specs.Contract.{noted}
use Rattle.options.specs.declared.line.LineOptions.{LineOptions}
use Rattle.condition.specs.declared.condition.ConditionRead.{ConditionRead}
use Rattle.condition.specs.Rightmost.{Judged}
use Rattle.condition.specs.Condition.{Sort, user, group, time, Judge, Condition, condition_of}
use Rattle.condition.specs.Contract.{judge_if, condition_read, read_for, kept_for, added_all}
use Rattle.condition.proofs.ConditionLaws.{heard_in, condition_heard}
use Rattle.entry.specs.declared.position.Position.TheVariants.{First, Second}
use Rattle.entry.specs.declared.position.FieldKind.TheVariants.{Pair as PairField, Command, Path as PathField, Other}
use Rattle.entry.specs.Field.{Entry, entry, no_field, followed, Position, first, second, pairs, rest, FieldRead, field_read, a_pair, condition_part, full_path, found, has_pair, pair_at, pair_of, command_of, path_field, option_or, other_of, field_of}
use Rattle.entry.specs.Contract.{taken, command_read, place, paired_with, waiting_with, rest_with, masked, Stands, NoOther, Early, Keeps, Holds, Adds, path_behind, kind_by}
use Rattle.entry.proofs.KindLaws.{pair_found, command_found, path_found, no_other_first, other_found}
use Rattle.entry.proofs.HoldsLaws.{pair_kept, command_kept, option_kept, users_kept, times_kept}
use Rattle.condition.specs.declared.condition.ConditionRead.TheVariants.{Users, Times}
use Rattle.entry.specs.declared.position.Position.{Position as CodePosition}
use Rattle.entry.specs.declared.entry.Entry.{Entry as Kept}

-- ---- a path
early_of : (q : Position) (e : Entry) → NoOther e → Early q e
early_of first e n = n
early_of (second es) e n = n
early_of pairs e n = n
early_of rest e n = tt

none_more : (e : Entry) (es : List (List ℕ)) (x : List ℕ) → NoOther e → NoOther (followed e (a_pair es x))
unfolding followed
none_more e es x n = (rw n.0, rw n.1, rw n.2)

module _ {j : Bool} {c : List ℕ} {t : ℕ → List ℕ} {e : Entry} where
  pub path_refused : (es : List (List ℕ)) (p : List ℕ) (q : Position) → head_is (byte "/") p && not (list_any blank p) ≡ false → Adds j c t e (path_behind es p q) (Err Path)
  unfolding full_path
  path_refused es p q f = record { adds = rw f refl }

  pub path_added : {k : Kept} (es : List (List ℕ)) (p : List ℕ) (q : Position) (m : Bool) (i at : ℕ) (next : CodePosition) (r : Kept) → head_is (byte "/") p && not (list_any blank p) ≡ true → drop at (t i) ≡ p → Keeps j c t k e → NoOther e → m ≡ taken j c es → Stands j c (paired_with k (place m i at) next) q → r ≡ paired_with k (place m i at) next → Adds j c t e (path_behind es p q) (Ok r)
  unfolding full_path
  path_added {k} es p q m i at next r f g h n d s v =
      record { adds = rw (f, v) (field_read (a_pair es p) q, refl, record { stands = s; early = early_of q (followed e (a_pair es p)) (none_more e es p n); keeps = pair_kept h n es p m i at next d g }) }

-- ---- a command pattern
-- what is read of it, by its expansions
module _ (j : Bool) (c : List ℕ) where
  read_fault : (o : Result (List (List ℕ)) Cause) {d : Cause} → Err d ≡ command_read j c o → o ≡ Err d
  read_fault (Err x) e = cc
  read_fault (Ok es) e = clash cc

  read_test : (o : Result (List (List ℕ)) Cause) {b : Bool} → Ok b ≡ command_read j c o → (es : List (List ℕ)) × (o ≡ Ok es) × (b ≡ taken j c es)
  read_test (Err x) e = clash cc
  read_test (Ok es) e = (es, refl, cc)

-- `::` stands in a text where its place is found
has_pair_is : (x : List ℕ) → has_pair x ≡ is_some (find_pair 58 58 0 x)
unfolding has_pair
has_pair_is x = go (find_pair 58 58 0 x)
  where
    go : (o : Option ℕ) → found o ≡ is_some o
    go None = refl
    go (Some i) = refl

module _ {j : Bool} {c : List ℕ} {t : ℕ → List ℕ} {e : Entry} where
  -- the pattern of a pair
  pub pair_refused : (x : List ℕ) (at : ℕ) (d : Cause) → Err d ≡ command_read j c (expanded Plain (take at x)) → Adds j c t e (pair_at x (Some at)) (Err d)
  pair_refused x at d f = record { adds = rw (read_fault j c (expanded Plain (take at x)) f) refl }

  pub pair_added : (x : List ℕ) (at : ℕ) (b : Bool) (r : Result Kept Cause) → Ok b ≡ command_read j c (expanded Plain (take at x))
      → ((es : List (List ℕ)) → b ≡ taken j c es → Adds j c t e (path_behind es (drop (at + 2) x) pairs) r) → Adds j c t e (pair_at x (Some at)) r
  pair_added x at b r f g = let w = read_test j c (expanded Plain (take at x)) f in rw w.1 (g w.0 w.2)

  -- a pattern alone
  pub command_refused : (x : List ℕ) (d : Cause) → Err d ≡ command_read j c (expanded Plain x) → Adds j c t e (command_of x) (Err d)
  unfolding command_of
  command_refused x d f = record { adds = rw (read_fault j c (expanded Plain x) f) refl }

  pub command_added : {k : Kept} (x : List ℕ) (b : Bool) → Ok b ≡ command_read j c (expanded Plain x) → Keeps j c t k e → NoOther e → Adds j c t e (command_of x) (Ok (waiting_with k b))
  unfolding command_of followed no_field
  command_added {k} x b f h n =
      let w = read_test j c (expanded Plain x) f in
      record { adds = rw w.1 (field_read no_field (second w.0), refl, record { stands = (refl, w.2); early = (rw n.0, rw n.1, rw n.2); keeps = command_kept h b }) }

  -- its path
  pub late_refused : (es : List (List ℕ)) (x : List ℕ) → is_some (find_pair 58 58 0 x) ≡ true → Adds j c t e (path_field es x) (Err LatePair)
  unfolding path_field
  late_refused es x f = record { adds = rw (has_pair_is x, f) refl }

  pub path_alone : (es : List (List ℕ)) (x : List ℕ) (r : Result Kept Cause) → is_some (find_pair 58 58 0 x) ≡ false → Adds j c t e (path_behind es (drop 0 x) rest) r → Adds j c t e (path_field es x) r
  unfolding path_field
  path_alone es x r f g = rw (has_pair_is x, f) g

-- ---- an option or a condition
-- what is read of a condition and what it adds, by what it is
abbrev read_by : Kept → Result Condition Cause → Result ConditionRead Cause
read_by k o = condition_read k.users k.times (and_then o (λ y. Ok (heard_in (is_some k.path) y)))

abbrev adds_by : Bool → List ℕ → (ℕ → List ℕ) → Entry → Result Condition Cause → Result Kept Cause → Type 0
adds_by j c t e o r = Adds j c t e (and_then o (λ y. Ok (field_read (condition_part y.sort y.alternatives) rest))) r

-- what is kept behind a condition that was read
abbrev heard : Kept → ConditionRead → Kept
heard k (Users u) = rest_with k u k.times k.options
heard k (Times u) = rest_with k k.users u k.options

module _ {j : Bool} {c : List ℕ} {t : ℕ → List ℕ} {e : Entry} (judge : Judge) (x : List ℕ) where
  pub option_late : (s : Setting) → is_some (find_pair 58 58 0 x) ≡ true → Adds j c t e (option_or judge x (Some (Ok s))) (Err LatePair)
  option_late s f = record { adds = rw (has_pair_is x, f) refl }

  pub option_added : {k : Kept} (s : Setting) (o : LineOptions) → is_some (find_pair 58 58 0 x) ≡ false → Keeps j c t k e → o ≡ noted k.options s → Adds j c t e (option_or judge x (Some (Ok s))) (Ok (rest_with k k.users k.times o))
  option_added s o f h g = record { adds = rw (has_pair_is x, f) (field_read (entry [] [] [] (s ∷ [])) rest, refl, record { stands = refl; early = tt; keeps = option_kept h s o g }) }

-- what is told of a condition, where the text is no longer than a field may be
abbrev told : Kept → Judge → List ℕ → Result ConditionRead Cause
told k judge x = condition_read k.users k.times (require (leb (length x) 1024) FieldLength (condition_of (judge_if (is_some k.path) judge) x))

told_is : (k : Kept) (judge : Judge) (x : List ℕ) → length x ≤ 1024 → told k judge x ≡ read_by k (condition_of judge x)
told_is k judge x l = rw (le-leb _ _ l, condition_heard (is_some k.path) judge x)

module _ {j : Bool} {c : List ℕ} {t : ℕ → List ℕ} {e : Entry} (k : Kept) (judge : Judge) (x : List ℕ) (l : length x ≤ 1024) where
  pub condition_refused : {d : Cause} → Err d ≡ told k judge x → Adds j c t e (option_or judge x None) (Err d)
  unfolding condition_read
  condition_refused {d} f = go (condition_of judge x) (f ∙ told_is k judge x l)
    where
      go : (o : Result Condition Cause) → Err d ≡ read_by k o → adds_by j c t e o (Err d)
      go (Err b) g = record { adds = cc }
      go (Ok y) g = clash cc

  pub condition_added : {u : ConditionRead} → Ok u ≡ told k judge x → Keeps j c t k e → Adds j c t e (option_or judge x None) (Ok (heard k u))
  unfolding condition_read
  condition_added {u} f h = go (condition_of judge x) (f ∙ told_is k judge x l)
    where
      by : (s : Sort) (xs : List Judged) → u ≡ read_for s (added_all (kept_for s k.users k.times) (masked (is_some k.path) xs)) → adds_by j c t e (Ok (record { sort = s; alternatives = xs })) (Ok (heard k u))
      by user xs g = record { adds = rw g (field_read (condition_part user xs) rest, refl, record { stands = refl; early = tt; keeps = users_kept h xs _ refl }) }
      by group xs g = record { adds = rw g (field_read (condition_part group xs) rest, refl, record { stands = refl; early = tt; keeps = users_kept h xs _ refl }) }
      by time xs g = record { adds = rw g (field_read (condition_part time xs) rest, refl, record { stands = refl; early = tt; keeps = times_kept h xs _ refl }) }

      go : (o : Result Condition Cause) → Ok u ≡ read_by k o → adds_by j c t e o (Ok (heard k u))
      go (Err b) g = clash cc
      go (Ok y) g = by y.sort y.alternatives cc

module _ {j : Bool} {c : List ℕ} {t : ℕ → List ℕ} {e : Entry} (judge : Judge) (x : List ℕ) where
  pub other_as : {o : Option (Result Setting Cause)} {r : Result Kept Cause} → o ≡ option_of false x → Adds j c t e (option_or judge x o) r → Adds j c t e (other_of judge x) r
  unfolding other_of
  other_as f g = rw (← f) g

-- ---- by what the field is
module _ {j : Bool} {c : List ℕ} {t : ℕ → List ℕ} {k : Kept} {p : Position} {e : Entry} (judge : Judge) (x : List ℕ) (r : Result Kept Cause) (h : Holds j c t k p e) (l : length x ≤ 1024) where
  abbrev Limited : Type 0
  Limited = Adds j c t e (require (leb (length x) 1024) FieldLength (field_of judge p x)) r

  within : Adds j c t e (field_of judge p x) r → Limited
  within g = rw (le-leb _ _ l) g

  pub pair_here : (i : ℕ) → kind_by k.position (find_pair 58 58 0 x) ≡ PairField i → (Keeps j c t k e → NoOther e → Adds j c t e (pair_at x (Some i)) r) → Limited
  unfolding field_of has_pair pair_of
  pair_here i s g = within (go p h.stands h.early)
    where
      go : (q : Position) → Stands j c k q → Early q e → Adds j c t e (field_of judge q x) r
      go first a n = rw (pair_found k.position _ s) (g h.keeps n)
      go (second es) a n = clash (let b = rw a.0 at s in cc)
      go pairs a n = rw (pair_found k.position _ s) (g h.keeps n)
      go rest a n = clash (let b = rw a at s in cc)

  pub command_here : kind_by k.position (find_pair 58 58 0 x) ≡ Command → (Keeps j c t k e → NoOther e → Adds j c t e (command_of x) r) → Limited
  unfolding field_of has_pair
  command_here s g = within (go p h.stands h.early (command_found k.position _ s))
    where
      go : (q : Position) → Stands j c k q → Early q e → (k.position ≡ First) × (find_pair 58 58 0 x ≡ None) → Adds j c t e (field_of judge q x) r
      go first a n f = rw f.1 (g h.keeps n)
      go (second es) a n f = clash (let b = a.0 in let d = f.0 in cc)
      go pairs a n f = clash (let d = f.0 in cc)
      go rest a n f = clash (let d = f.0 in cc)

  pub path_here : kind_by k.position (find_pair 58 58 0 x) ≡ PathField → ((es : List (List ℕ)) → Keeps j c t k e → NoOther e → k.waiting ≡ taken j c es → Adds j c t e (path_field es x) r) → Limited
  unfolding field_of
  path_here s g = within (go p h.stands h.early (path_found k.position _ s))
    where
      go : (q : Position) → Stands j c k q → Early q e → k.position ≡ Second → Adds j c t e (field_of judge q x) r
      go first a n f = clash cc
      go (second es) a n f = g es h.keeps n a.1
      go pairs a n f = clash cc
      go rest a n f = clash cc

  pub other_here : kind_by k.position (find_pair 58 58 0 x) ≡ Other → (Keeps j c t k e → Adds j c t e (other_of judge x) r) → Limited
  unfolding field_of has_pair
  other_here s g = within (go p h.stands)
    where
      go : (q : Position) → Stands j c k q → Adds j c t e (field_of judge q x) r
      go first a = clash (no_other_first (find_pair 58 58 0 x) (rw a at s))
      go (second es) a = clash (let b = rw a.0 at s in cc)
      go pairs a = rw (other_found (find_pair 58 58 0 x) (rw a at s)) (g h.keeps)
      go rest a = g h.keeps

pub long_refused : {j : Bool} {c : List ℕ} {t : ℕ → List ℕ} {e : Entry} (x : List ℕ) (o : Result FieldRead Cause) → 1024 < length x → Adds j c t e (require (leb (length x) 1024) FieldLength o) (Err FieldLength)
long_refused x o l = record { adds = rw (lt-leb _ _ l) refl }
