-- Laws of how much was handed on. Assumes nothing.
use mathlib.Core.Path.{◌≡◌, refl, sym, ap, ◌∙◌, subst}
use mathlib.Core.Bool.{Bool, true, false, cond}
use mathlib.Core.List.{List, [], ◌++◌}
use Prim.Native.Nat.{ℕ, ◌≤◌}
use native.Mathlib.Omega.{arith}
use lib.ListN.{length, take, length-append}
use lib.Seq.{take-take}
use Rattle.text.proofs.Laws.{clash, false_of}
use Rattle.streams.specs.Contract.{counted_on, Prints}
use Rattle.streams.proofs.CountLaws.{counted_none, counted_twice}
use Rattle.streams.specs.declared.standard_output.Output.{Output}
use Rattle.record_log.specs.declared.file.Log.{Log}
use Rattle.record_log.specs.Appending.{is_open, Waits, Appends}
use Rattle.responder.specs.declared.lines.Run.{Run}
use Rattle.responder.specs.Contract.{Logs, Counted, halted}

-- bytes counted in two steps are counted as one list
counted_on_law : (a b c : ℕ) (x y : List ℕ) → b ≡ counted_on a (length x) → c ≡ counted_on b (length y) → c ≡ counted_on a (length (x ++ y))
counted_on_law a b c x y e f =
    f ∙ ap (λ (n : ℕ). counted_on n (length y)) e ∙ counted_twice a (length x) (length y) ∙ ap (counted_on a) (sym (length-append x y))

-- the part that was handed on, by another name
pub prints_as : {part first : List ℕ} {before after : Output} → part ≡ first → Prints part before after → Prints first before after
prints_as {part} {first} {before} {after} e p = subst (λ (l : List ℕ). Prints l before after) e p

-- a log that was handed its first records
pub logs_first : {before due after : Log} (records part : List ℕ) (count : ℕ) → part ≡ take count records → Waits count before due → Appends part due after → Logs (take count records) before after
logs_first {before} {due} {after} records part count e w a =
    let t : take due.waiting part ≡ take count records = ap (λ (n : ℕ). take n part) w.waits ∙ ap (take count) e ∙ take-take count count records (omega arith) in
    record {
      bytes = a.appended.bytes ∙ ap (λ (x : List ℕ). counted_on due.appended.bytes (length x)) t ∙ ap (λ (x : ℕ). counted_on x (length (take count records))) (ap (λ x. x.bytes) w.appended);
      opened = a.opened ∙ ap (λ (b : Bool). cond b after.appended.whole false) w.opened;
      whole = λ h. sym (ap (λ x. x.whole) w.appended) ∙ a.appended.whole h;
    }

-- whether a log is open behind a write
was_open : (w u : Bool) → cond w u false ≡ true → w ≡ true
was_open true u e = refl
was_open false u e = clash cc

-- nothing was handed on
pub handed_none : (run : Run) → run.output.handed ≤ 18446744073709551615 → run.log.appended.bytes ≤ 18446744073709551615 → Counted [] [] run run
handed_none run h k = record {
  printed = counted_none run.output.handed h;
  appended = counted_none run.log.appended.bytes k;
  opened = λ e. e;
  closed = λ e f. clash cc;
  whole = λ e. e;
}

-- answers were handed on to standard output, and records to the log
pub handed_both : {answers records : List ℕ} {before after : Run} → Prints answers before.output after.output → Logs records before.log after.log → Counted answers records before after
handed_both {answers} {records} {before} {after} p l = record {
  printed = p.handed;
  appended = l.bytes;
  opened = λ e. was_open (is_open before.log) after.log.appended.whole (sym l.opened ∙ e);
  closed = λ e f. sym (l.opened ∙ ap (λ (b : Bool). cond b after.log.appended.whole false) e) ∙ f;
  whole = l.whole;
}

-- what was handed on between three places of a run
pub handed_on : {answers records more others : List ℕ} {first mid last : Run} → Counted answers records first mid → Counted more others mid last → Counted (answers ++ more) (records ++ others) first last
handed_on {answers} {records} {more} {others} {first} {mid} {last} h k = record {
  printed = counted_on_law first.output.handed mid.output.handed last.output.handed answers more h.printed k.printed;
  appended = counted_on_law first.log.appended.bytes mid.log.appended.bytes last.log.appended.bytes records others h.appended k.appended;
  opened = λ e. h.opened (k.opened e);
  closed = λ e f. go (is_open mid.log) refl e f;
  whole = λ e. h.whole (k.whole e);
}
  where
    go : (b : Bool) → is_open mid.log ≡ b → is_open first.log ≡ true → is_open last.log ≡ false → last.log.appended.whole ≡ false
    go true m e f = k.closed m f
    go false m e f = false_of last.log.appended.whole (λ t. not_both (k.whole t) (h.closed e m))
      where
        not_both : mid.log.appended.whole ≡ true → mid.log.appended.whole ≡ false → ⊥
        not_both x y = clash cc

-- the end of a run hands nothing on
pub handed_halted : {answers records : List ℕ} {before mid after : Run} → after ≡ halted mid → Counted answers records before mid → Counted answers records before after
handed_halted {answers} {records} {before} {mid} {after} e h = rw e (record {
  printed = h.printed;
  appended = h.appended;
  opened = h.opened;
  closed = h.closed;
  whole = h.whole;
})
