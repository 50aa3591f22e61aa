-- Laws of a log that is read block by block. Assumes nothing.
use Rattle.std.specs.Prelude.{None, Option, Some}
use mathlib.Core.Path.{◌≡◌, refl, sym, ap, ◌∙◌, subst}
use mathlib.Core.Bool.{Bool, true, false}
use mathlib.Core.List.{List, [], ◌++◌, append-nil}
use Prim.Native.Nat.{ℕ, zero, suc, ◌-◌, ◌≤◌}
use native.Mathlib.Omega.{arith}
use borrow.Rule.Slice.PartMut.{put_mid, post_of, take_put}
use lib.ListN.{length, length-append, length-drop, take, drop, drop_of_length-le}
use lib.Seq.{drop_at, length-take-le}
use Rattle.text.proofs.Laws.{clash}
use Rattle.streams.specs.Contract.{bytes_told, LoadedIn, counted_on}
use Rattle.streams.proofs.InputLaws.{same_bytes, no_failure}
use Rattle.streams.specs.declared.standard_output.Output.{Output}
use Rattle.log_text.specs.LogText.{lines_in, record_lines, bytes_left, last_text}
use Rattle.log_text.specs.Contract.{HandsOn, Follows, Finishes, Fails, Serves, LoadedBehind, Reads}
use Rattle.log_text.specs.declared.show.Run.{Run}
use Rattle.log_text.proofs.LogLaws.{lines_on, left_on, log_end}
use Rattle.log_text.proofs.OutputLaws.{counted_then}

-- ---- what a read told
module _ {loaded : (Option ℕ)} {begun rest left : List ℕ} {before r : Run} where
  pub serves_failed : loaded ≡ None → Fails before.output r → Serves loaded begun rest before left r
  serves_failed e f = record { follows = λ n k h. no_failure k e; finishes = λ k. no_failure k e; fails = λ k. f }

  pub serves_end : {n : ℕ} → loaded ≡ Some n → n ≡ 0 → Finishes begun before.output r → Serves loaded begun rest before left r
  serves_end e z f = record { follows = λ m k h. let s = same_bytes e k in absurd (omega arith); finishes = λ k. f; fails = λ k. no_failure e k }

  pub serves_bytes : {n : ℕ} {bytes : List ℕ} → loaded ≡ Some n → (n ≡ 0 → ⊥) → bytes ≡ begun ++ take n rest → Follows bytes before.output left r → Serves loaded begun rest before left r
  serves_bytes {n} {bytes} e z b f = record {
    follows = λ m k h. subst (λ (x : List ℕ). Follows x before.output left r) (b ∙ ap (λ (x : ℕ). begun ++ take x rest) (same_bytes e k)) f;
    finishes = λ k. absurd (z (same_bytes e k));
    fails = λ k. no_failure e k;
  }

-- ---- bytes read behind others
pub loaded_behind : (begun : ℕ) (old rest : List ℕ) {r : (Option ℕ)} → begun ≤ length old → LoadedIn rest r → LoadedBehind begun old (put_mid begun (length old - begun) old rest) r
loaded_behind begun old rest {r} h l =
    let e : length (drop begun old) ≤ length old - begun = rw (length-drop begun old) (omega arith) in
    let z = drop_at (take begun old) (rest ++ post_of begun (length old - begun) old) begun (length-take-le begun old h) ∙ ap (λ (x : List ℕ). rest ++ x) (drop_of_length-le (drop begun old) e) ∙ append-nil rest in
    record { kept = take_put begun (length old - begun) old rest h; loaded = subst (λ (x : List ℕ). LoadedIn x r) (sym z) l }

-- ---- bytes read so far
never : {A : Type 0} {b : Bool} → b ≡ false → b ≡ true → A
never f t = let z : ◌≡◌ {A = Bool} false true = sym f ∙ t in clash cc

pub reads_start : (begun : List ℕ) {r : Run} → begun ≡ [] → r.output.handed ≡ 0 → r.ended ≡ false → Reads [] begun r
unfolding record_lines lines_in bytes_left counted_on
reads_start begun b e f = record { left = λ g. b; lines = λ g w. e; ended = λ g. never f g }

-- a text is counted behind another
handed_on : (s t : List ℕ) {a b : Output} → HandsOn t a b → b.whole ≡ true → (a.whole ≡ true → a.handed ≡ counted_on 0 (length s)) → b.handed ≡ counted_on 0 (length (s ++ t))
handed_on s t h w e =
    h.handed w ∙ ap (λ (n : ℕ). counted_on n (length t)) (e (h.whole w)) ∙ counted_then 0 (length s) (length t) ∙ ap (counted_on 0) (sym (length-append s t))

module _ {input begun left : List ℕ} {before r : Run} (s : Reads input begun before) (g : before.going ≡ true) where
  reads_failed : (bytes : List ℕ) → Fails before.output r → Reads bytes left r
  reads_failed bytes f = record { left = λ t. never f.going t; lines = λ t. never f.going t; ended = λ t. never f.ended t }

  reads_end : Finishes begun before.output r → Reads input left r
  reads_end f = record {
    left = λ t. never f.going t;
    lines = λ t. never f.going t;
    ended = λ t w. handed_on (record_lines input) (last_text begun) f.last w (s.lines g)
        ∙ ap (λ (x : List ℕ). counted_on 0 (length (record_lines input ++ last_text x))) (s.left g) ∙ ap (λ (x : List ℕ). counted_on 0 (length x)) (log_end input);
  }

  reads_more : (bytes : List ℕ) → Follows (begun ++ bytes) before.output left r → Reads (input ++ bytes) left r
  reads_more bytes f = record {
    left = λ t. f.left_over ∙ ap (λ (x : List ℕ). bytes_left (x ++ bytes)) (s.left g) ∙ sym (left_on input bytes);
    lines = λ t w. handed_on (record_lines input) (record_lines (begun ++ bytes)) f.lines w (s.lines g)
        ∙ ap (λ (x : List ℕ). counted_on 0 (length (record_lines input ++ record_lines (x ++ bytes)))) (s.left g) ∙ ap (λ (x : List ℕ). counted_on 0 (length x)) (sym (lines_on input bytes));
    ended = λ t. never f.ended t;
  }

  -- every byte that a read told was taken
  pub reads_on : (loaded : (Option ℕ)) (rest : List ℕ) → Serves loaded begun rest before left r → Reads (input ++ take (bytes_told loaded) rest) left r
  reads_on None rest v = reads_failed (input ++ take 0 rest) (v.fails refl)
  reads_on (Some zero) rest v = subst (λ (x : List ℕ). Reads x left r) (sym (append-nil input)) (reads_end (v.finishes refl))
  reads_on (Some (suc n)) rest v = reads_more (take (suc n) rest) (v.follows (suc n) refl (omega arith))

pub reads_behind : (begun : ℕ) (input : List ℕ) {old new left : List ℕ} {loaded : (Option ℕ)} {before r : Run} → Reads input (take begun old) before → before.going ≡ true
    → LoadedBehind begun old new loaded → Serves loaded (take begun new) (drop begun new) before left r → Reads (input ++ take (bytes_told loaded) (drop begun new)) left r
reads_behind begun input {new = new} {loaded = loaded} {before = before} s g b v = reads_on (subst (λ (x : List ℕ). Reads input x before) (sym b.kept) s) g loaded (drop begun new) v
