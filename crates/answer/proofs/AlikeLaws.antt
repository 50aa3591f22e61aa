-- Tables that answer alike because both are too long, and what an answer 2 leaves of the buffer. Assumes nothing.
use Rattle.std.specs.Prelude.{None, Option, Some}
use mathlib.Core.Path.{◌≡◌, refl, sym, ap, ◌∙◌}
use mathlib.Core.Bool.{Bool, true, false}
use mathlib.Core.List.{List}
use Prim.Native.Nat.{ℕ, ◌+◌, ◌<◌}
use native.Mathlib.Omega.{arith}
use borrow.Author.Tests.{lt-leb, leb-true, leb-false, eqb-true}
use lib.Dec.{eqb, leb}
use lib.ListN.{length, take, length-take}
use lib.Seq.{take_all}
use Rattle.text.proofs.Laws.{untrue}
use Rattle.fault.specs.declared.Cause.{Cause}
use Rattle.fault.specs.Fault.{number_of}
use Rattle.fault.proofs.Numbers.{above_decisions}
use Rattle.question.specs.Question.{Question}
use Rattle.line.specs.Line.{table_limit}
use Rattle.answer.specs.declared.Answer.{Answer}
use Rattle.answer.specs.declared.Answer.TheVariants.{Permit, Password, NoEntry, StoppedByNargs, StoppedByArgument, StoppedByPath, MalformedQuestion, LongTable, RefusedByte, CutShort, RefusedLine, SmallBuffer}
use Rattle.answer.specs.Answer.{Outcome, result, told_of, told_by}
use Rattle.answer.specs.Meaning.{Asked, asks, read_table, answer_of}
use Rattle.answer.proofs.MeaningLaws.{written, Leaves, buffer_left}

-- ---- too long
module _ (t u : List ℕ) (h : table_limit < length t) (k : table_limit < length u) (b : List ℕ) where
  table_alike : (o : Option Question) → read_table t b o ≡ read_table u b o
  table_alike None = refl
  table_alike (Some q) = rw (lt-leb (length t) table_limit h, lt-leb (length u) table_limit k)

  -- two tables over the limit answer alike, whatever is asked
  pub long_alike : (a : Asked) → answer_of t a b ≡ answer_of u a b
  unfolding answer_of
  long_alike a = rw (table_alike (asks a))

-- a table answers as its bytes up to one past the limit do
pub front_alike : (t : List ℕ) (a : Asked) (b : List ℕ) → answer_of (take (table_limit + 1) t) a b ≡ answer_of t a b
front_alike t a b = by (leb (length t) (table_limit + 1)) refl
  where
    by : (x : Bool) → leb (length t) (table_limit + 1) ≡ x → answer_of (take (table_limit + 1) t) a b ≡ answer_of t a b
    by true e = ap (λ l. answer_of l a b) (take_all (table_limit + 1) t (leb-true (length t) (table_limit + 1) e))
    by false e =
        let h = leb-false (length t) (table_limit + 1) e in
        let k : table_limit < length (take (table_limit + 1) t) = omega (arith, length-take (table_limit + 1) t) in
        long_alike (take (table_limit + 1) t) t k (omega arith) b a

-- ---- "no entry"
cause_two : (c : Cause) → eqb (number_of c) 2 ≡ true → leb (number_of c) 5 ≡ true
cause_two c e = rw (eqb-true (number_of c) 2 e)

-- 2 is the number of this answer alone
only_none : (x : Answer) (b : List ℕ) → eqb (told_of x b).number 2 ≡ true → x ≡ NoEntry
unfolding told_of
only_none (Permit g) b e = untrue e
only_none (Password g) b e = untrue e
only_none NoEntry b e = refl
only_none (StoppedByNargs l) b e = untrue e
only_none (StoppedByArgument l) b e = untrue e
only_none (StoppedByPath l) b e = untrue e
only_none MalformedQuestion b e = untrue e
only_none LongTable b e = untrue e
only_none (RefusedByte p) b e = untrue e
only_none (CutShort p) b e = untrue e
only_none (RefusedLine c p) b e = untrue (sym (above_decisions c) ∙ cause_two c e)
only_none SmallBuffer b e = untrue e

none_leaves : {b : List ℕ} {o : Outcome} → Leaves b o → o.answer ≡ NoEntry → o ≡ result NoEntry b
unfolding told_of
none_leaves {b} {o} w e =
    let z : written o ≡ 0 = rw e in
    let k : o.buffer ≡ b = rw z at w.later in
    ap (λ x. result x o.buffer) e ∙ ap (result NoEntry) k

-- a table that answers 2 leaves the buffer as it was
pub no_entry_keeps : (t : List ℕ) (a : Asked) (b : List ℕ) → eqb (told_by (answer_of t a b)).number 2 ≡ true → answer_of t a b ≡ result NoEntry b
no_entry_keeps t a b e = none_leaves (buffer_left t a b) (only_none (answer_of t a b).answer (answer_of t a b).buffer e)
