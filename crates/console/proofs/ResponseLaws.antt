-- A response has at most 2,048 bytes. Assumes nothing.
use Rattle.std.specs.Prelude.{Err, None, Ok, Option, Result, Some}
use mathlib.Core.Path.{◌≡◌, refl}
use mathlib.Core.Bool.{Bool, true, false, cond}
use mathlib.Core.List.{List, [], ◌++◌}
use Prim.Native.Nat.{ℕ, ◌+◌, ◌≤◌}
use native.Mathlib.Omega.{arith}
use borrow.Author.Tests.{le-leb}
use lib.Dec.{eqb, leb}
use lib.ListN.{length, length-append, replicate, length-replicate}
use Rattle.text.specs.Bytes.{bytes}
use Rattle.text.specs.Lists.{null}
use Rattle.text.proofs.Laws.{pick_of}
use Rattle.fault.specs.declared.Cause.{Cause}
use Rattle.question.specs.Question.{Question}
use Rattle.line.specs.Line.{table_limit}
use Rattle.line.specs.Fold.{Refusal, faulty, cut}
use Rattle.line.specs.declared.whole.Unaccepted.{Unaccepted}
use Rattle.line.specs.declared.whole.Unaccepted.TheVariants.{Long, RefusedAt}
use Rattle.line.specs.Whole.{acceptance_of}
use Rattle.line.proofs.WithinLaws.{ReadWithin}
use Rattle.line.proofs.WholeLaws.{accepted_short, refused_within}
use Rattle.entry.specs.Verdict.{Verdict, permit, password, stopped_by_nargs, stopped_by_argument, stopped_by_path}
use Rattle.reader.specs.State.{Decision}
use Rattle.reader.proofs.ShortIds.{ShortVerdict}
use Rattle.answer.specs.Answer.{least_buffer, Grant, Beside, granted, at_line, at_place, Told, told, told_of, told_by}
use Rattle.table_lines.specs.Lines.{lines_give}
use Rattle.answer.specs.Meaning.{Asked, asks, answer_of}
use Rattle.answer.proofs.CutLaws.{Asks, read}
use Rattle.answer.proofs.MeaningLaws.{verdict_told, decision_told}
use Rattle.console.specs.QuestionLine.{asked_in}
use Rattle.console.specs.Printed.{id_text, permit_word, grant_text, stop_text, refusal_text, printed}
use Rattle.console.specs.Console.{told_for, response, logged_for, logged}
use Rattle.record.proofs.AppendLaws.{bytes_most}
use Rattle.record.proofs.WithinLaws.{Give, lines_give_law}
use Rattle.output.proofs.DecimalLaws.{decimal_short}
use Rattle.fault.proofs.Numbers.{cause_number}

-- a grant with short strings at a line of the table
pub record ShortGrant (g : Grant) : Type 0 where
  pub line : g.line ≤ 32769
  pub path : length g.path ≤ 1024
  pub uid : length g.uid ≤ 64
  pub euid : length g.euid ≤ 64
  pub gid : length g.gid ≤ 64
  pub egid : length g.egid ≤ 64

-- what stands beside a number is short
abbrev pub ShortBeside : Beside → Type 0
ShortBeside (granted g) = ShortGrant g
ShortBeside (at_line l) = l ≤ 32769
ShortBeside (at_place p) = p ≤ 32769

pub record ShortTold (t : Told) : Type 0 where
  pub number : t.number ≤ 18
  pub beside : ShortBeside t.beside

-- ---- what an answer tells is short
short_verdict : (line : ℕ) (v : Verdict) → line ≤ 32769 → ShortVerdict v → ShortTold (verdict_told line v)
short_verdict line (permit p o) h k = record { number = omega arith; beside = record { line = h; path = k.0; uid = k.1.uid; euid = k.1.euid; gid = k.1.gid; egid = k.1.egid } }
short_verdict line (password p o) h k = record { number = omega arith; beside = record { line = h; path = k.0; uid = k.1.uid; euid = k.1.euid; gid = k.1.gid; egid = k.1.egid } }
short_verdict line stopped_by_nargs h k = record { number = omega arith; beside = h }
short_verdict line stopped_by_argument h k = record { number = omega arith; beside = h }
short_verdict line stopped_by_path h k = record { number = omega arith; beside = h }

module _ (t : List ℕ) (a : Asked) (b : List ℕ) where
  short_lines : (w : Asks t a b) → length t ≤ table_limit → ShortTold (told_by (answer_of t a b))
  unfolding told_of
  short_lines w h = go (lines_give w.question t) refl (lines_give_law w.question t)
    where
      go : (r : Result (Option Decision) (Refusal Cause)) → lines_give w.question t ≡ r → ReadWithin (length t) (Give (length t)) r → ShortTold (told_by (answer_of t a b))
      go (Err (faulty c p)) e k = rw (read w, e) (record { number = (cause_number c).1; beside = omega arith })
      go (Err (cut p)) e k = rw (read w, e) (record { number = omega arith; beside = omega arith })
      go (Ok None) e k = rw (read w, e) (record { number = omega arith; beside = omega arith })
      go (Ok (Some d)) e k = rw (decision_told w d e) (short_verdict d.line d.verdict (omega (arith, k.1)) k.0)

  -- an answer with room in the buffer tells what is short
  pub short_told : least_buffer ≤ length b → ShortTold (told_by (answer_of t a b))
  unfolding answer_of told_of
  short_told r = good (asks a) refl
    where
      room : leb least_buffer (length b) ≡ true
      room = le-leb least_buffer (length b) r

      bytes : (q : Question) → asks a ≡ Some q → (x : Result Unit Unaccepted) → acceptance_of t ≡ x → ShortTold (told_by (answer_of t a b))
      bytes q g (Err Long) e = rw (room, g, e) (record { number = omega arith; beside = omega arith })
      bytes q g (Err (RefusedAt p)) e = rw (room, g, e) (record { number = omega arith; beside = omega (arith, refused_within t e) })
      bytes q g (Ok accepted) e = short_lines (record { question = q; room = room; good = g; accepted = e }) (accepted_short t e)

      good : (o : Option Question) → asks a ≡ o → ShortTold (told_by (answer_of t a b))
      good None e = rw (room, e) (record { number = omega arith; beside = omega arith })
      good (Some q) e = bytes q e (acceptance_of t) refl

-- ---- what is short is printed in 2,048 bytes
id_length : (name id : List ℕ) → length (id_text name id) ≤ length name + length id
unfolding id_text
id_length name id = go (null id)
  where
    go : (x : Bool) → length (cond x [] (name ++ id)) ≤ length name + length id
    go true = omega arith
    go false = omega (arith, length-append name id)

grant_length : (word : List ℕ) (g : Grant) → length word ≤ 9 → ShortGrant g → length (grant_text word g) ≤ 2048
unfolding grant_text
grant_length word g h s =
    let l = decimal_short g.line (omega (arith, s.line)) in
    let u = id_length (bytes " uid=") g.uid in
    let e = id_length (bytes " euid=") g.euid in
    let i = id_length (bytes " gid=") g.gid in
    let f = id_length (bytes " egid=") g.egid in
    simp length-append (omega (arith, s.path, s.uid, s.euid, s.gid, s.egid))

stop_length : (number line : ℕ) → line ≤ 32769 → length (stop_text number line) ≤ 2048
unfolding stop_text
stop_length number line h =
    let l = decimal_short line (omega arith) in
    let w = pick_of (λ (x : List ℕ). length x ≤ 7) (eqb number 3) {x = bytes " nargs\n"} {y = cond (eqb number 4) (bytes " arg\n") (bytes " path\n")} (omega arith) (pick_of (λ (x : List ℕ). length x ≤ 7) (eqb number 4) {x = bytes " arg\n"} {y = bytes " path\n"} (omega arith) (omega arith)) in
    simp length-append (omega arith)

refusal_length : (number place : ℕ) → number ≤ 18 → place ≤ 32769 → length (refusal_text number place) ≤ 2048
unfolding refusal_text
refusal_length number place h k =
    let l = decimal_short number (omega arith) in
    let m = decimal_short place (omega arith) in
    simp length-append (omega arith)

pub printed_length : (t : Told) → ShortTold t → length (printed t) ≤ 2048
unfolding printed
printed_length t s = go t.beside s.beside
  where
    go : (x : Beside) → ShortBeside x → length (printed (told t.number x)) ≤ 2048
    go (granted g) h = grant_length (permit_word t.number) g (pick_of (λ (x : List ℕ). length x ≤ 9) (eqb t.number 0) {x = bytes "permit "} {y = bytes "password "} (omega arith) (omega arith)) h
    go (at_line l) h = pick_of (λ (x : List ℕ). length x ≤ 2048) (eqb t.number 2) {x = bytes "none\n"} {y = stop_text t.number l} (omega arith) (stop_length t.number l h)
    go (at_place p) h = refusal_length t.number p s.number h

-- a response has at most 2,048 bytes, whatever the table and the line
pub response_length : (table line : List ℕ) → length (response table line) ≤ 2048
unfolding response
response_length table line = go (asked_in line)
  where
    go : (o : Option Asked) → length (printed (told_for table o)) ≤ 2048
    go None = printed_length (told 10 (at_place 0)) (record { number = omega arith; beside = omega arith })
    go (Some a) = printed_length (told_for table (Some a)) (short_told table a (replicate least_buffer 0) (rw (length-replicate {A = ℕ} least_buffer 0) (omega arith)))

-- ---- a line's record has eight bytes at most
pub logged_length : (table line : List ℕ) → length (logged table line) ≤ 8
unfolding logged
logged_length table line = go (asked_in line)
  where
    go : (o : Option Asked) → length (logged_for table o) ≤ 8
    go None = omega arith
    go (Some a) = bytes_most _
