-- What an answer leaves of the buffer, and what it tells of it. Assumes nothing.
use Rattle.std.specs.Prelude.{Err, None, Ok, Option, Result, Some}
use mathlib.Core.Path.{◌≡◌, refl, sym, ap, ◌∙◌}
use mathlib.Core.Bool.{Bool, true, false, cond}
use mathlib.Core.List.{List, [], ◌∷◌, ◌++◌, flat_map, append_assoc}
use Prim.Native.Nat.{ℕ, ◌+◌, ◌-◌, ◌≤◌}
use native.Mathlib.Omega.{arith}
use borrow.Author.Tests.{leb-true}
use lib.Dec.{leb}
use lib.ListN.{length, take, drop, set, length-append}
use lib.Seq.{drop-set-lt, drop_at, take-append_seam}
use Rattle.text.specs.Buffer.{laid}
use Rattle.text.proofs.Buffers.{laid_length, laid_is}
use Rattle.fault.specs.declared.Cause.{Cause}
use Rattle.fault.proofs.Readings.{Gives}
use Rattle.question.specs.Question.{Question}
use Rattle.line.specs.Line.{backslash, lines_of}
use Rattle.line.specs.Fold.{Refusal, faulty, cut}
use Rattle.line.specs.declared.whole.Unaccepted.{Unaccepted}
use Rattle.line.specs.declared.whole.Unaccepted.TheVariants.{Long, RefusedAt}
use Rattle.line.specs.Whole.{acceptance_of}
use Rattle.line.proofs.FoldLaws.{run_keeps, run_through}
use Rattle.options.specs.Options.{Options, id_or, auth_or}
use Rattle.entry.specs.Verdict.{Verdict, permit, password, stopped_by_nargs, stopped_by_argument, stopped_by_path}
use Rattle.reader.specs.State.{Decision, start}
use Rattle.reader.specs.Read.{line_read}
use Rattle.reader.proofs.ShortSettings.{ShortIds}
use Rattle.reader.proofs.ShortIds.{ShortVerdict, ShortDecision, ShortState, short_start, short_keeps}
use Rattle.table_lines.specs.Lines.{lines_give}
use Rattle.answer.specs.declared.Answer.{Answer}
use Rattle.answer.specs.declared.Answer.TheVariants.{SmallBuffer}
use Rattle.answer.specs.Answer.{least_buffer, Outcome, result, Grant, Beside, Told, told, granted, at_line, at_place, string_in, grant_in, told_of, told_by}
use Rattle.answer.specs.Meaning.{Asked, asks, ended, strings, count_told, granted_by, resolved, settled, read_bytes, read_table, answer_of}
use Rattle.answer.proofs.CutLaws.{Asks, read}

-- the bytes that an answer tells as written: none but for 0 and 1
abbrev pub written_beside : Beside → ℕ
written_beside (granted g) = g.written
written_beside (at_line l) = 0
written_beside (at_place p) = 0

abbrev pub written : Outcome → ℕ
written o = written_beside (told_by o).beside

-- how an outcome leaves the buffer b: as long as it was, as it was from the bytes told on, and these are at most 1,285
pub record Leaves (b : List ℕ) (o : Outcome) : Type 0 where
  pub kept : length o.buffer ≡ length b
  pub later : drop (written o) o.buffer ≡ drop (written o) b
  pub few : written o ≤ 1285

-- an answer that tells no byte
untouched : (a : Answer) (b : List ℕ) → written (result a b) ≡ 0 → Leaves b (result a b)
untouched a b e = record { kept = refl; later = refl; few = rw e (omega arith) }

-- what is laid below e leaves the bytes from e on
laid_later : (e : ℕ) (b : List ℕ) (n : ℕ) (xs : List ℕ) → n + length xs ≤ e → drop e (laid b n xs) ≡ drop e b
unfolding laid
laid_later e b n [] h = refl
laid_later e b n (x ∷ xs) h = laid_later e (set b n x) (n + 1) xs (omega arith) ∙ drop-set-lt e b n x (omega arith)

-- a path of at most 1,024 bytes and four ids of at most 64, each with its zero byte
module _ (line : ℕ) (path : List ℕ) (o : Options) where
  strings_end : (granted_by line path o).egid ≡ length (strings path o)
  unfolding granted_by strings flat_map
  strings_end = simp length-append (omega arith)

  strings_few : length path ≤ 1024 → ShortIds o → (granted_by line path o).egid ≤ 1285
  unfolding granted_by
  strings_few h k = simp length-append (omega (arith, k.uid, k.euid, k.gid, k.egid))

  leaves_strings : (b : List ℕ) → drop (granted_by line path o).egid (laid b 0 (strings path o)) ≡ drop (granted_by line path o).egid b
  leaves_strings b = laid_later (granted_by line path o).egid b 0 (strings path o) (omega (arith, strings_end))

leaves_resolved : (b : List ℕ) (line : ℕ) (v : Verdict) → ShortVerdict v → Leaves b (resolved b line v)
unfolding told_of grant_in
leaves_resolved b line (permit p o) h = record { kept = laid_length b 0 (strings p o); later = leaves_strings line p o b; few = strings_few line p o h.0 h.1 }
leaves_resolved b line (password p o) h = record { kept = laid_length b 0 (strings p o); later = leaves_strings line p o b; few = strings_few line p o h.0 h.1 }
leaves_resolved b line stopped_by_nargs h = untouched _ b refl
leaves_resolved b line stopped_by_argument h = untouched _ b refl
leaves_resolved b line stopped_by_path h = untouched _ b refl

leaves_settled : (b : List ℕ) (r : Result (Option Decision) (Refusal Cause)) → Gives ShortDecision r → Leaves b (settled b r)
unfolding told_of
leaves_settled b (Err (faulty c p)) h = untouched _ b refl
leaves_settled b (Err (cut p)) h = untouched _ b refl
leaves_settled b (Ok None) h = untouched _ b refl
leaves_settled b (Ok (Some d)) h = leaves_resolved b d.line d.verdict (h (Some d) refl)

short_lines : (q : Question) (t : List ℕ) → Gives ShortDecision (lines_give q t)
short_lines q t o e =
    let x = run_through backslash (line_read q) (λ s. s.decision) start t o e in
    rw x.2 at (run_keeps (line_read q) ShortState (λ s u l h f. short_keeps q s u l h f) (lines_of backslash t) start x.0 short_start x.1).decision

leaves_table : (t b : List ℕ) (o : Option Question) → Leaves b (read_table t b o)
unfolding told_of
leaves_table t b None = untouched _ b refl
leaves_table t b (Some q) = bytes (acceptance_of t)
  where
    bytes : (x : Result Unit Unaccepted) → Leaves b (read_bytes t q b x)
    bytes (Err Long) = untouched _ b refl
    bytes (Err (RefusedAt p)) = untouched _ b refl
    bytes (Ok x) = leaves_settled b (lines_give q t) (short_lines q t)

-- every answer keeps the buffer's length, tells at most 1,285 bytes as written, and leaves all behind them as they were; a refusal and the answers 2 to 5 tell none, and so leave the whole buffer
pub buffer_left : (t : List ℕ) (a : Asked) (b : List ℕ) → Leaves b (answer_of t a b)
unfolding answer_of told_of
buffer_left t a b = by (leb least_buffer (length b))
  where
    by : (x : Bool) → Leaves b (cond x (read_table t b (asks a)) (result SmallBuffer b))
    by true = leaves_table t b (asks a)
    by false = untouched _ b refl

-- ---- what is told beside 0 and 1 is the entry's path and its options
-- a string with its zero byte, read back from behind p
string_at : (p s r : List ℕ) (at : ℕ) → length p ≡ at → string_in (p ++ (ended s ++ r)) at (at + length (ended s)) ≡ s
string_at p s r at e =
    let z : at + length (ended s) - at - 1 ≡ length s = omega (arith, length-append s (0 ∷ [])) in
    rw (drop_at p (ended s ++ r) at e, z) (ap (take (length s)) (append_assoc s (0 ∷ []) r) ∙ take-append_seam s (0 ∷ r))

-- the strings, each with its zero byte, stand in the buffer from a place on
abbrev Holds : List ℕ → ℕ → List (List ℕ) → Type 0
Holds b at [] = Unit {0}
Holds b at (s ∷ ss) = (string_in b at (at + length (ended s)) ≡ s) × Holds b (at + length (ended s)) ss

strings_in_law : (b p : List ℕ) (ss : List (List ℕ)) (r : List ℕ) (at : ℕ) → length p ≡ at → b ≡ p ++ (flat_map ended ss ++ r) → Holds b at ss
unfolding flat_map
strings_in_law b p [] r at e f = tt
strings_in_law b p (s ∷ ss) r at e f =
    let g : b ≡ p ++ (ended s ++ (flat_map ended ss ++ r)) = f ∙ ap (λ x. p ++ x) (append_assoc (ended s) (flat_map ended ss) r) in
    let l : length (p ++ ended s) ≡ at + length (ended s) = length-append p (ended s) ∙ rw e in
    (rw g (string_at p s (flat_map ended ss ++ r) at e), strings_in_law b (p ++ ended s) ss r (at + length (ended s)) l (g ∙ sym (append_assoc p (ended s) (flat_map ended ss ++ r))))

-- what the verdict of the deciding entry tells
abbrev pub grant_of : ℕ → List ℕ → Options → Grant
grant_of line path o = record {
  line = line;
  path = path;
  uid = id_or o.uid;
  euid = id_or o.euid;
  gid = id_or o.gid;
  egid = id_or o.egid;
  auth = auth_or o.auth;
  timeout = o.timeout;
  nargs = count_told o.nargs;
  written = length (strings path o);
}

told_grant : (b : List ℕ) (line : ℕ) (path : List ℕ) (o : Options) → length (strings path o) ≤ length b → grant_in (laid b 0 (strings path o)) (granted_by line path o) ≡ grant_of line path o
unfolding grant_in granted_by strings
told_grant b line path o h =
    let f = laid_is b 0 (strings path o) (omega arith) in
    let z : 0 + length (ended path) ≡ length (ended path) = omega arith in
    let r = rw z at (strings_in_law (laid b 0 (strings path o)) [] (path ∷ id_or o.uid ∷ id_or o.euid ∷ id_or o.gid ∷ id_or o.egid ∷ []) (drop (0 + length (strings path o)) b) 0 refl f) in
    rw (r.0, r.1.0, r.1.1.0, r.1.1.1.0, r.1.1.1.1.0, ← strings_end line path o)

abbrev pub verdict_told : ℕ → Verdict → Told
verdict_told line (permit p o) = told 0 (granted (grant_of line p o))
verdict_told line (password p o) = told 1 (granted (grant_of line p o))
verdict_told line stopped_by_nargs = told 3 (at_line line)
verdict_told line stopped_by_argument = told 4 (at_line line)
verdict_told line stopped_by_path = told 5 (at_line line)

module _ (b : List ℕ) (line : ℕ) (room : 2048 ≤ length b) where
  told_resolved : (v : Verdict) → ShortVerdict v → told_by (resolved b line v) ≡ verdict_told line v
  unfolding told_of
  told_resolved (permit p o) h = ap (λ g. told 0 (granted g)) (told_grant b line p o (omega (arith, strings_few line p o h.0 h.1, strings_end line p o)))
  told_resolved (password p o) h = ap (λ g. told 1 (granted g)) (told_grant b line p o (omega (arith, strings_few line p o h.0 h.1, strings_end line p o)))
  told_resolved stopped_by_nargs h = refl
  told_resolved stopped_by_argument h = refl
  told_resolved stopped_by_path h = refl

-- a decision tells the line of its entry, and beside 0 and 1 the entry's own path and the options in force for it
pub decision_told : {t : List ℕ} {a : Asked} {b : List ℕ} (w : Asks t a b) (d : Decision) → lines_give w.question t ≡ Ok (Some d) → told_by (answer_of t a b) ≡ verdict_told d.line d.verdict
decision_told {t} {a} {b} w d e = rw (read w, e) (told_resolved b d.line (leb-true least_buffer (length b) w.room) d.verdict (short_lines w.question t (Some d) e))
