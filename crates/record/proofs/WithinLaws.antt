-- The lines, places and ends that an answer to a table tells are at most 32,768: 16 bits hold each of them. Assumes nothing.
use Rattle.std.specs.Option.{option_map, option_or}
use Rattle.std.specs.Prelude.{Err, None, Ok, Option, Result, Some}
use mathlib.Core.Path.{◌≡◌, refl}
use mathlib.Core.Bool.{Bool, true, false, cond}
use mathlib.Core.List.{List}
use Prim.Native.Nat.{ℕ, ◌≤◌}
use native.Mathlib.Omega.{arith}
use lib.Dec.{leb}
use lib.ListN.{length, length-append}
use Rattle.fault.specs.declared.Cause.{Cause}
use Rattle.line.specs.Line.{table_limit, Line, backslash}
use Rattle.line.specs.Fold.{Refusal, faulty, cut}
use Rattle.line.specs.declared.whole.Unaccepted.{Unaccepted}
use Rattle.line.specs.declared.whole.Unaccepted.TheVariants.{Long, RefusedAt}
use Rattle.line.specs.Whole.{acceptance_of}
use Rattle.question.specs.Question.{Question}
use Rattle.options.specs.Options.{Options}
use Rattle.entry.specs.Verdict.{Verdict, permit, password, stopped_by_nargs, stopped_by_argument, stopped_by_path}
use Rattle.reader.specs.State.{State, Decision, decided_at, start}
use Rattle.reader.specs.Read.{line_read}
use Rattle.reader.proofs.ReadLaws.{line_keeps, line_faults}
use Rattle.reader.proofs.ShortIds.{ShortVerdict, ShortDecision, ShortState, short_start, short_keeps}
use Rattle.reader.proofs.ShortSettings.{ShortIds}
use Rattle.line.proofs.WithinLaws.{LineWithin, ReadWithin, outcome_within}
use Rattle.line.proofs.WholeLaws.{accepted_short, refused_within}
use Rattle.table_lines.specs.Lines.{lines_give}
use Rattle.answer.specs.Answer.{least_buffer, result}
use Rattle.answer.specs.Meaning.{Asked, asks, granted_by, resolved, settled, read_bytes, read_table, answer_of}
use Rattle.answer.specs.declared.Granted.{Granted}
use Rattle.answer.specs.declared.Answer.{Answer}
use Rattle.answer.specs.declared.Answer.TheVariants.{Permit, Password, NoEntry, StoppedByNargs, StoppedByArgument, StoppedByPath, MalformedQuestion, LongTable, RefusedByte, CutShort, RefusedLine, SmallBuffer}

-- ---- what the control lines give
abbrev pub DecidedWithin : ℕ → Option Decision → Type 0
DecidedWithin n None = Unit {0}
DecidedWithin n (Some d) = d.line ≤ n

record Held (n : ℕ) (s : State) : Type 0 where
  pub short : ShortState s
  pub line : DecidedWithin n s.decision

held_start : (n : ℕ) → Held n start
unfolding start
held_start n = record { short = short_start; line = tt }

decided_or : (n line : ℕ) (o : Option Decision) (v : Option Verdict) → line ≤ n → DecidedWithin n o → DecidedWithin n (option_or o (option_map (decided_at line) v))
decided_or n line None None h k = tt
decided_or n line None (Some v) h k = h
decided_or n line (Some d) v h k = k

held_keeps : (n : ℕ) (q : Question) (s s' : State) (l : Line) → LineWithin n l → Held n s → line_read q s l ≡ Ok s' → Held n s'
held_keeps n q s s' l w h e =
    let k = line_keeps q s s' l e in
    record { short = short_keeps q s s' l h.short e; line = rw k.decides (decided_or n l.number s.decision k.own w.number h.line) }

-- a short decision, on a line within n
abbrev pub Give : ℕ → Option Decision → Type 0
Give n o = ShortDecision o × DecidedWithin n o

-- places and lines within the table
pub lines_give_law : (q : Question) (t : List ℕ) → ReadWithin (length t) (Give (length t)) (lines_give q t)
lines_give_law q t = outcome_within backslash (line_read q) (line_faults q) (λ s. s.decision) t (Held (length t)) (held_keeps (length t) q) (Give (length t)) start (λ s h. (h.short.decision, h.line)) (held_start (length t))

-- ---- the answer
-- a permit tells a line and the five ends
pub record GrantWithin (n : ℕ) (g : Granted) : Type 0 where
  pub line : g.line ≤ n
  pub path : g.path ≤ n
  pub uid : g.uid ≤ n
  pub euid : g.euid ≤ n
  pub gid : g.gid ≤ n
  pub egid : g.egid ≤ n

-- each line, place and end that an answer tells is at most n
abbrev pub Within : ℕ → Answer → Type 0
Within n (Permit g) = GrantWithin n g
Within n (Password g) = GrantWithin n g
Within n NoEntry = Unit {0}
Within n (StoppedByNargs line) = line ≤ n
Within n (StoppedByArgument line) = line ≤ n
Within n (StoppedByPath line) = line ≤ n
Within n MalformedQuestion = Unit {0}
Within n LongTable = Unit {0}
Within n (RefusedByte place) = place ≤ n
Within n (CutShort place) = place ≤ n
Within n (RefusedLine cause place) = place ≤ n
Within n SmallBuffer = Unit {0}

grant_within : (line : ℕ) (path : List ℕ) (o : Options) → line ≤ table_limit → length path ≤ 1024 → ShortIds o → GrantWithin table_limit (granted_by line path o)
unfolding granted_by
grant_within line path o h k i = record {
  line = h;
  path = simp length-append (omega arith);
  uid = simp length-append (omega (arith, i.uid));
  euid = simp length-append (omega (arith, i.uid, i.euid));
  gid = simp length-append (omega (arith, i.uid, i.euid, i.gid));
  egid = simp length-append (omega (arith, i.uid, i.euid, i.gid, i.egid));
}

module _ (b : List ℕ) where
  resolved_within : (line : ℕ) (v : Verdict) → line ≤ table_limit → ShortVerdict v → Within table_limit (resolved b line v).answer
  resolved_within line (permit p o) h k = grant_within line p o h k.0 k.1
  resolved_within line (password p o) h k = grant_within line p o h k.0 k.1
  resolved_within line stopped_by_nargs h k = h
  resolved_within line stopped_by_argument h k = h
  resolved_within line stopped_by_path h k = h

  settled_within : (n : ℕ) (r : Result (Option Decision) (Refusal Cause)) → n ≤ table_limit → ReadWithin n (Give n) r → Within table_limit (settled b r).answer
  settled_within n (Err (faulty c p)) h k = omega arith
  settled_within n (Err (cut p)) h k = omega arith
  settled_within n (Ok None) h k = tt
  settled_within n (Ok (Some d)) h k = resolved_within d.line d.verdict (omega (arith, k.1)) k.0

  table_within : (t : List ℕ) (o : Option Question) → Within table_limit (read_table t b o).answer
  table_within t None = tt
  table_within t (Some q) = by (acceptance_of t) refl
    where
      by : (x : Result Unit Unaccepted) → acceptance_of t ≡ x → Within table_limit (read_bytes t q b x).answer
      by (Err Long) e = tt
      by (Err (RefusedAt p)) e = refused_within t e
      by (Ok accepted) e = settled_within (length t) (lines_give q t) (accepted_short t e) (lines_give_law q t)

-- no answer to a table tells a line, a place or an end above 32,768
pub answer_within : (t : List ℕ) (a : Asked) (b : List ℕ) → Within table_limit (answer_of t a b).answer
unfolding answer_of
answer_within t a b = by (leb least_buffer (length b))
  where
    by : (x : Bool) → Within table_limit (cond x (read_table t b (asks a)) (result SmallBuffer b)).answer
    by true = table_within b t (asks a)
    by false = tt
