-- What the code adds for one record.
use Rattle.std.specs.Prelude.{Ok, Err, Option}
use Rattle.question.specs.declared.Age.{Age}
use mathlib.Core.Path.{◌≡◌, sym, ap, ◌∙◌}
use mathlib.Core.Bool.{Bool, true, false, not, cond}
use mathlib.Core.List.{List}
use Prim.Native.Nat.{ℕ, min, ◌+◌, ◌-◌, ◌≤◌, ◌<◌}
use native.Mathlib.Omega.{arith}
use borrow.Author.Tests.{le-leb, lt-leb}
use lib.ListN.{get_or, set}
use Rattle.question.specs.Question.{week_minutes}
use Rattle.record.specs.declared.Fields.{Fields}
use Rattle.record.specs.declared.RecordFault.{RecordFault}
use Rattle.record.specs.Layout.{is_below, size_of}
use Rattle.record.specs.Stored.{stored_age}
use Rattle.record.specs.Read.{record_in, record_told}
use Rattle.record.proofs.Keeping.{known_most}
use Rattle.record.proofs.RoundTrip.{read_known}
use Rattle.figures.specs.declared.Figures.{Figures}
use Rattle.figures.specs.Figures.{record_limit, sum_limit, fields_shown, weekday_of, day_hour_of, below_zero, is_from_zero, from_zero}
use Rattle.figures.specs.Contract.{more, summed, raised, with_fields, with_refused, with_shown, with_record, room_for}

-- ---- counts and sums that stop
pub more_in : (n : ℕ) → n < record_limit → n + 1 ≡ more n
unfolding more
more_in n h = omega arith

pub more_out : (n : ℕ) → record_limit ≤ n → record_limit ≡ more n
unfolding more
more_out n h = omega arith

pub added_in : (sum x : ℕ) → sum + x ≤ sum_limit → sum + x ≡ summed sum x
unfolding summed
added_in sum x h = omega arith

pub added_out : (sum x : ℕ) → sum_limit ≤ sum + x → sum_limit ≡ summed sum x
unfolding summed
added_out sum x h = omega arith

pub raised_by : (l : List ℕ) (i m : ℕ) → m ≡ more (get_or l i 0) → set l i m ≡ raised l i
unfolding raised
raised_by l i m e = rw e

pub room_of : (given records r : ℕ) → r ≡ min records (record_limit - given) → r ≡ room_for given records
unfolding room_for
room_of given records r e = e

pub room_most : (given records r : ℕ) → r ≡ room_for given records → r ≤ records
unfolding room_for
room_most given records r e = omega arith

-- ---- ages
module _ (n : ℕ) (age : (Option Age)) where
  pub below_other : 1 < n → 0 ≡ below_zero n (stored_age age)
  unfolding below_zero
  below_other h = rw (lt-leb n 1 h)

  pub below_past : n ≤ 1 → is_below (stored_age age) ≡ false → 0 ≡ below_zero n (stored_age age)
  unfolding below_zero
  below_past h e = rw (le-leb n 1 h, e)

  pub below_size : (r : ℕ) → n ≤ 1 → is_below (stored_age age) ≡ true → r ≡ size_of (stored_age age) → r ≡ below_zero n (stored_age age)
  unfolding below_zero
  below_size r h e q = rw (le-leb n 1 h, e) q

  pub from_other : 1 < n → false ≡ is_from_zero n (stored_age age)
  unfolding is_from_zero
  from_other h = rw (lt-leb n 1 h)

  pub from_age : (b : Bool) → n ≤ 1 → b ≡ is_below (stored_age age) → not b ≡ is_from_zero n (stored_age age)
  unfolding is_from_zero
  from_age b h e = rw (le-leb n 1 h, e)

  pub from_none : is_from_zero n (stored_age age) ≡ false → 0 ≡ from_zero n (stored_age age)
  unfolding from_zero
  from_none e = rw e

  pub from_size : (r : ℕ) → is_from_zero n (stored_age age) ≡ true → r ≡ size_of (stored_age age) → r ≡ from_zero n (stored_age age)
  unfolding from_zero
  from_size r e q = rw e q

-- ---- one record more
pub fields_more : (g : Figures) (f : Fields) {answers weekdays hours : List ℕ} {below sum ages given b p : ℕ} {t : Bool}
    → answers ≡ raised g.answers f.number
    → weekdays ≡ raised g.weekdays (weekday_of f)
    → hours ≡ raised g.hours (day_hour_of f)
    → b ≡ below_zero f.number (stored_age f.age)
    → p ≡ from_zero f.number (stored_age f.age)
    → t ≡ is_from_zero f.number (stored_age f.age)
    → below ≡ summed g.below b
    → sum ≡ summed g.sum p
    → ages ≡ cond t (more g.ages) g.ages
    → given ≡ more g.given
    → ◌≡◌ {A = Figures} (record { answers = answers; weekdays = weekdays; hours = hours; below = below; sum = sum; ages = ages; refused = g.refused; given = given }) (with_fields g f)
unfolding with_fields
fields_more g f ea ew eh eb ep et qb qp qa qg = rw (ea, ew, eh, qb, qp, qa, qg, eb, ep, et)

pub refused_more : (g : Figures) {refused given : ℕ} → refused ≡ more g.refused → given ≡ more g.given
    → ◌≡◌ {A = Figures} (record { answers = g.answers; weekdays = g.weekdays; hours = g.hours; below = g.below; sum = g.sum; ages = g.ages; refused = refused; given = given }) (with_refused g)
unfolding with_refused
refused_more g p q = rw (p, q)

-- the fields that a record shows
pub record_stored : (g : Figures) (s : List ℕ) (f : Fields) {r : Figures} → record_in s ≡ Ok f → r ≡ with_fields g f → r ≡ with_record g s
unfolding with_record fields_shown record_told
record_stored g s f e h = h ∙ sym (ap (λ q. with_shown g ((record_told q).shown)) e)

pub record_refused : (g : Figures) (s : List ℕ) (q : RecordFault) {r : Figures} → record_in s ≡ Err q → r ≡ with_refused g → r ≡ with_record g s
unfolding with_record fields_shown record_told
record_refused g s q e h = h ∙ sym (ap (λ q. with_shown g ((record_told q).shown)) e)

pub stored_low : (s : List ℕ) (f : Fields) → record_in s ≡ Ok f → (f.number ≤ 23) × (f.minute.0 < week_minutes)
stored_low s f e = let k = read_known s f e in (known_most f.number k.number, k.minute)
