-- The figures of records and one record more.
use Rattle.std.specs.Prelude.{None, Option, Some, Result, Ok, Err}
use mathlib.Core.Path.{◌≡◌, refl, sym, ap, ◌∙◌}
use mathlib.Core.Bool.{Bool, true, false, cond, ◌&&◌}
use mathlib.Core.List.{List, [], ◌∷◌, ◌++◌, append_assoc, append-nil}
use mathlib.Core.Logic.{◌⊎◌, inl, inr}
use Prim.Native.Nat.{ℕ, suc, ◌+◌, ◌*◌, ◌≤◌, ◌<◌}
use native.Mathlib.Omega.{arith}
use borrow.Author.Tests.{eq-eqb, ne_eqb}
use lib.Dec.{eqb, leb}
use lib.ListN.{length, length-append}
use Rattle.text.specs.Lists.{count}
use Rattle.text.proofs.Laws.{pick_of}
use Rattle.record.specs.declared.Fields.{Fields}
use Rattle.record.specs.declared.RecordFault.{RecordFault}
use Rattle.record.specs.Layout.{is_below, size_of}
use Rattle.record.specs.Stored.{largest_size, stored_age}
use Rattle.record.specs.Read.{record_in, record_told}
use Rattle.record.proofs.Ages.{stored_small}
use Rattle.record.proofs.Keeping.{known_most}
use Rattle.record.proofs.RoundTrip.{Storable, read_known}
use Rattle.figures.specs.Figures.{record_limit, fields_shown, passes_test, amount_of, is_refused, how_many, total, refused_of, weekday_of, day_hour_of, below_zero, is_from_zero, from_zero, table, figures_of}
use Rattle.figures.specs.Contract.{more, summed, raised, with_fields, with_refused, with_shown, with_record, with_all}
use Rattle.figures.proofs.Adding.{more_in, added_in}
use Rattle.figures.proofs.Tables.{OneMore, table_same, raised_table}

-- ---- counting a list
module _ {A : Type 0} (test : A → Bool) where
  pub count_cons : (x : A) (xs : List A) → count test (x ∷ xs) ≡ count test xs + cond (test x) 1 0
  unfolding count
  count_cons x xs = go (test x) (count test xs)
    where
      go : (t : Bool) (n : ℕ) → cond t (suc n) n ≡ n + cond t 1 0
      go true n = omega arith
      go false n = omega arith

  count_snoc : (xs : List A) (y : A) → count test (xs ++ (y ∷ [])) ≡ count test xs + cond (test y) 1 0
  unfolding count
  count_snoc [] y = go (test y)
    where
      go : (t : Bool) → cond t 1 0 ≡ 0 + cond t 1 0
      go true = omega arith
      go false = omega arith
  count_snoc (x ∷ xs) y = rw (count_cons x (xs ++ (y ∷ [])), count_cons x xs, count_snoc xs y) (omega arith)

  count_most : (xs : List A) → count test xs ≤ length xs
  unfolding count
  count_most [] = omega arith
  count_most (x ∷ xs) = pick_of (λ n. n ≤ suc (length xs)) (test x) (omega (arith, count_most xs)) (omega (arith, count_most xs))

-- ---- one record
-- the fields that a record shows are those that were read
pub shown_stored : (s : List ℕ) (f : Fields) → fields_shown s ≡ Some f → record_in s ≡ Ok f
unfolding fields_shown record_told
shown_stored s f = go (record_in s)
  where
    go : (r : Result Fields RecordFault) → (record_told r).shown ≡ Some f → r ≡ Ok f
    go (Ok g) e = cc
    go (Err q) e = cc

-- what is known of fields that a record shows
pub shown_known : (s : List ℕ) (f : Fields) → fields_shown s ≡ Some f → Storable f
shown_known s f e = read_known s f (shown_stored s f e)

-- a record shows fields, or it is refused
pub cases : (o : Option Fields) → ((f : Fields) × (o ≡ Some f)) ⊎ (o ≡ None)
cases (Some f) = inl (f, refl)
cases None = inr refl

-- ---- one record more
module _ (test : Fields → Bool) where
  pub many_most : (rs : List (List ℕ)) → how_many test rs ≤ length rs
  unfolding how_many
  many_most rs = count_most (λ s. passes_test test (fields_shown s)) rs

  many_snoc : (rs : List (List ℕ)) (s : List ℕ) → how_many test (rs ++ (s ∷ [])) ≡ how_many test rs + cond (passes_test test (fields_shown s)) 1 0
  unfolding how_many
  many_snoc rs s = count_snoc (λ x. passes_test test (fields_shown x)) rs s

  many_fields : (rs : List (List ℕ)) (s : List ℕ) (f : Fields) → fields_shown s ≡ Some f → how_many test (rs ++ (s ∷ [])) ≡ how_many test rs + cond (test f) 1 0
  many_fields rs s f e = rw (many_snoc rs s, e)

  many_refused : (rs : List (List ℕ)) (s : List ℕ) → fields_shown s ≡ None → how_many test (rs ++ (s ∷ [])) ≡ how_many test rs
  many_refused rs s e = rw (many_snoc rs s, e) (omega arith)

module _ (amount : Fields → ℕ) where
  total_snoc : (rs : List (List ℕ)) (s : List ℕ) → total amount (rs ++ (s ∷ [])) ≡ total amount rs + amount_of amount (fields_shown s)
  unfolding total
  total_snoc [] s = omega arith
  total_snoc (x ∷ rs) s = rw (total_snoc rs s) (omega arith)

  -- what no record's amount passes, times the records
  total_most : (most : ℕ) → ((s : List ℕ) → amount_of amount (fields_shown s) ≤ most) → (rs : List (List ℕ)) → total amount rs ≤ length rs * most
  unfolding total
  total_most most h [] = omega arith
  total_most most h (s ∷ rs) = omega (arith, h s, total_most most h rs)

  -- no amount of an age passes the largest size that is stored
  amount_most : ((f : Fields) → amount f ≤ size_of f.age) → (s : List ℕ) → amount_of amount (fields_shown s) ≤ largest_size
  amount_most h s = go (cases (fields_shown s))
    where
      go : ((f : Fields) × (fields_shown s ≡ Some f)) ⊎ (fields_shown s ≡ None) → amount_of amount (fields_shown s) ≤ largest_size
      go (inl p) = rw p.1 (omega (arith, h p.0, (shown_known s p.0 p.1).age))
      go (inr e) = rw e (omega arith)

  ages_most : ((f : Fields) → amount f ≤ size_of f.age) → (rs : List (List ℕ)) → total amount rs ≤ length rs * largest_size
  ages_most h rs = total_most largest_size (amount_most h) rs

-- by a key: one more at the record's own
module _ (key : Fields → ℕ) (rs : List (List ℕ)) (s : List ℕ) (f : Fields) (e : fields_shown s ≡ Some f) where
  key_more : OneMore (key f) (λ n. how_many (λ q. eqb (key q) n) rs) (λ n. how_many (λ q. eqb (key q) n) (rs ++ (s ∷ [])))
  key_more = record {
    here = rw (many_fields (λ q. eqb (key q) (key f)) rs s f e, eq-eqb (key f) (key f) refl);
    there = λ j h. rw (many_fields (λ q. eqb (key q) j) rs s f e, ne_eqb (key f) j h) (omega arith);
  }

refused_snoc : (rs : List (List ℕ)) (s : List ℕ) → refused_of (rs ++ (s ∷ [])) ≡ refused_of rs + cond (is_refused (fields_shown s)) 1 0
unfolding refused_of
refused_snoc rs s = count_snoc (λ x. is_refused (fields_shown x)) rs s

pub refused_most : (rs : List (List ℕ)) → refused_of rs ≤ length rs
unfolding refused_of
refused_most rs = count_most (λ s. is_refused (fields_shown s)) rs

one_longer : (rs : List (List ℕ)) (s : List ℕ) → length (rs ++ (s ∷ [])) ≡ length rs + 1
one_longer rs s = length-append rs (s ∷ [])

below_le : (f : Fields) → below_zero f.number f.age ≤ size_of f.age
unfolding below_zero
below_le f = pick_of (λ x. x ≤ size_of f.age) (leb f.number 1 && is_below f.age) (omega arith) (omega arith)

from_le : (f : Fields) → from_zero f.number f.age ≤ size_of f.age
unfolding from_zero
from_le f = pick_of (λ x. x ≤ size_of f.age) (is_from_zero f.number f.age) (omega arith) (omega arith)

pub below_most : (rs : List (List ℕ)) → total (λ f. below_zero f.number f.age) rs ≤ length rs * largest_size
below_most rs = ages_most (λ f. below_zero f.number f.age) below_le rs

pub from_most : (rs : List (List ℕ)) → total (λ f. from_zero f.number f.age) rs ≤ length rs * largest_size
from_most rs = ages_most (λ f. from_zero f.number f.age) from_le rs

module _ (rs : List (List ℕ)) (s : List ℕ) (h : length rs < record_limit) where
  given_on : more (length rs) ≡ length (rs ++ (s ∷ []))
  given_on = rw (one_longer rs s) (sym (more_in (length rs) h))

  module _ (f : Fields) (e : fields_shown s ≡ Some f) where
    fits : Storable f
    fits = shown_known s f e

    uncapped : stored_age f.age ≡ f.age
    uncapped = stored_small f.age fits.age

    by_key : (n : ℕ) (key : Fields → ℕ) → key f < n → raised (table n (λ i. how_many (λ q. eqb (key q) i) rs)) (key f) ≡ table n (λ i. how_many (λ q. eqb (key q) i) (rs ++ (s ∷ [])))
    by_key n key k =
        raised_table n (key f) (λ i. how_many (λ q. eqb (key q) i) rs) (λ i. how_many (λ q. eqb (key q) i) (rs ++ (s ∷ []))) k
        (omega (arith, many_most (λ q. eqb (key q) (key f)) rs)) (key_more key rs s f e)

    sum_on : (amount : Fields → ℕ) → ((q : Fields) → amount q ≤ size_of q.age) → summed (total amount rs) (amount f) ≡ total amount (rs ++ (s ∷ []))
    sum_on amount k =
        let t = ages_most amount k rs in
        let a = k f in
        let m = fits.age in
        sym (added_in (total amount rs) (amount f) (omega arith)) ∙ rw (total_snoc amount rs s, e)

    many_on : (test : Fields → Bool) → cond (test f) (more (how_many test rs)) (how_many test rs) ≡ how_many test (rs ++ (s ∷ []))
    many_on test = rw (many_fields test rs s f e) (go (test f))
      where
        go : (t : Bool) → cond t (more (how_many test rs)) (how_many test rs) ≡ how_many test rs + cond t 1 0
        go true = sym (more_in (how_many test rs) (omega (arith, many_most test rs)))
        go false = omega arith

    refused_stays : refused_of (rs ++ (s ∷ [])) ≡ refused_of rs
    refused_stays = rw (refused_snoc rs s, e) (omega arith)

    fields_on : with_fields (figures_of rs) f ≡ figures_of (rs ++ (s ∷ []))
    unfolding with_fields figures_of
    fields_on =
        let k = known_most f.number fits.number in
        let a = by_key 24 (λ q. q.number) (omega arith) in
        let w = by_key 7 weekday_of (omega (arith, fits.minute)) in
        let o = by_key 24 day_hour_of (omega arith) in
        let b = sum_on (λ q. below_zero q.number q.age) below_le in
        let p = sum_on (λ q. from_zero q.number q.age) from_le in
        let c = many_on (λ q. is_from_zero q.number q.age) in
        rw (uncapped, a, w, o, b, p, c, given_on, refused_stays)

  module _ (e : fields_shown s ≡ None) where
    refused_one : more (refused_of rs) ≡ refused_of (rs ++ (s ∷ []))
    refused_one = rw (refused_snoc rs s, e) (sym (more_in (refused_of rs) (omega (arith, refused_most rs))))

    by-key-too : (n : ℕ) (key : Fields → ℕ) → table n (λ i. how_many (λ q. eqb (key q) i) rs) ≡ table n (λ i. how_many (λ q. eqb (key q) i) (rs ++ (s ∷ [])))
    by-key-too n key = table_same n (λ i. how_many (λ q. eqb (key q) i) rs) (λ i. how_many (λ q. eqb (key q) i) (rs ++ (s ∷ []))) (λ i. many_refused (λ q. eqb (key q) i) rs s e)

    sum_too : (amount : Fields → ℕ) → total amount rs ≡ total amount (rs ++ (s ∷ []))
    sum_too amount = rw (total_snoc amount rs s, e) (omega arith)

    many_too : (test : Fields → Bool) → how_many test rs ≡ how_many test (rs ++ (s ∷ []))
    many_too test = sym (many_refused test rs s e)

    refused_on : with_refused (figures_of rs) ≡ figures_of (rs ++ (s ∷ []))
    unfolding with_refused figures_of
    refused_on =
        let a = by-key-too 24 (λ q. q.number) in
        let w = by-key-too 7 weekday_of in
        let o = by-key-too 24 day_hour_of in
        let b = sum_too (λ q. below_zero q.number q.age) in
        let p = sum_too (λ q. from_zero q.number q.age) in
        let c = many_too (λ q. is_from_zero q.number q.age) in
        rw (a, w, o, b, p, c, given_on, refused_one)

  -- the figures of records and one more are the figures of all of them
  pub record_on : with_record (figures_of rs) s ≡ figures_of (rs ++ (s ∷ []))
  unfolding with_record
  record_on = go (cases (fields_shown s))
    where
      go : ((f : Fields) × (fields_shown s ≡ Some f)) ⊎ (fields_shown s ≡ None) → with_shown (figures_of rs) (fields_shown s) ≡ figures_of (rs ++ (s ∷ []))
      go (inl p) = rw p.1 (fields_on p.0 p.1)
      go (inr e) = rw e (refused_on e)

pub records_on : (rs ss : List (List ℕ)) → length rs + length ss ≤ record_limit → with_all (figures_of rs) ss ≡ figures_of (rs ++ ss)
unfolding with_all
records_on rs [] h = rw (append-nil rs)
records_on rs (s ∷ ss) h =
    let l = one_longer rs s in
    let k : length (rs ++ (s ∷ [])) + length ss ≤ record_limit = omega arith in
    rw (record_on rs s (omega arith)) (records_on (rs ++ (s ∷ [])) ss k ∙ ap figures_of (append_assoc rs (s ∷ []) ss))
