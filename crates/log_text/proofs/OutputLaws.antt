-- Laws of texts that are handed on one after the other. Assumes nothing.
use mathlib.Core.Path.{◌≡◌, sym, ap, ◌∙◌, subst}
use mathlib.Core.Bool.{Bool, true, false}
use mathlib.Core.List.{List, [], ◌++◌}
use Prim.Native.Nat.{ℕ, ◌+◌, ◌%◌, ◌≤◌, ◌<◌}
use native.Mathlib.Omega.{arith}
use lib.ListN.{length, length-append, take, drop}
use Rattle.text.proofs.Laws.{clash}
use Rattle.streams.specs.Contract.{counted_on, Prints}
use Rattle.streams.specs.declared.standard_output.Output.{Output}
use Rattle.log_text.specs.LogText.{lines_in, record_lines}
use Rattle.log_text.specs.Contract.{Added, Shows, HandsOn}
use Rattle.log_text.proofs.LogLaws.{lines_more, lines_all}

pub counted_then : (n a b : ℕ) → counted_on (counted_on n a) b ≡ counted_on n (a + b)
unfolding counted_on
counted_then n a b = omega arith

pub hands_print : {text : List ℕ} {a b : Output} → Prints text a b → HandsOn text a b
hands_print p = record { handed = λ w. p.handed; whole = p.whole }

pub hands_as : {s t : List ℕ} {a b : Output} → s ≡ t → HandsOn s a b → HandsOn t a b
hands_as {a = a} {b = b} e h = subst (λ (x : List ℕ). HandsOn x a b) e h

pub hands_then : {s t : List ℕ} {a b c : Output} → HandsOn s a b → HandsOn t b c → HandsOn (s ++ t) a c
hands_then {s} {t} {a} h k = record {
  handed = λ w. k.handed w ∙ ap (λ (n : ℕ). counted_on n (length t)) (h.handed (k.whole w)) ∙ counted_then a.handed (length s) (length t) ∙ ap (counted_on a.handed) (sym (length-append s t));
  whole = λ w. h.whole (k.whole w);
}

-- nothing is handed on
pub hands_none : (a : Output) → a.handed < 18446744073709551616 → HandsOn [] a a
unfolding counted_on
hands_none a h = record { handed = λ w. omega arith; whole = λ w. w }

pub hands_start : (block : List ℕ) (a : Output) → a.handed < 18446744073709551616 → HandsOn (record_lines (take 0 block)) a a
unfolding record_lines lines_in
hands_start block a h = hands_none a h

-- where not all was written, nothing is said
pub hands_failed : {s : List ℕ} {a b : Output} → b.whole ≡ false → HandsOn s a b
hands_failed e = record { handed = λ w. let z : ◌≡◌ {A = Bool} false true = sym e ∙ w in clash cc; whole = λ w. let z : ◌≡◌ {A = Bool} false true = sym e ∙ w in clash cc }

-- the lines of a block up to a place, and those of a call from there on
pub hands_shown : (block rest : List ℕ) {waiting : List ℕ} {at n : ℕ} {a b c : Output} → rest ≡ drop at block → at ≤ length block → at % 8 ≡ 0
    → HandsOn (record_lines (take at block)) a b → Shows rest [] n waiting → Prints waiting b c → HandsOn (record_lines (take (at + n) block)) a c
hands_shown block rest {waiting} {at} {n} e l w h s p =
    let r = s.lines ∙ ap (λ (x : List ℕ). record_lines (take n x)) e in
    hands_as (sym (lines_more block at l w n)) (hands_then h (hands_as r (hands_print p)))

-- less than a record is left
pub hands_all : (block : List ℕ) {at : ℕ} {a b : Output} → at ≤ length block → at % 8 ≡ 0 → length block < at + 8 → HandsOn (record_lines (take at block)) a b → HandsOn (record_lines block) a b
hands_all block {at} l w h k = hands_as (lines_all block at l w h) k

-- what stands in a buffer behind nothing
pub hands_added : {text old new : List ℕ} {r : ℕ} {a b : Output} → Added text old 0 new r → Prints (take r new) a b → HandsOn text a b
hands_added t p = hands_as t.text_behind (hands_print p)
