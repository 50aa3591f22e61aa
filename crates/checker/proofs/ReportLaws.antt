-- The laws of a report and its buffer.
use Rattle.std.specs.Prelude.{None, Option, Some}
use mathlib.Core.Path.{◌≡◌, sym, ap, ◌∙◌}
use mathlib.Core.List.{List}
use Prim.Native.Nat.{ℕ, ◌+◌, ◌≤◌}
use native.Mathlib.Omega.{arith}
use borrow.Author.Tests.{le-leb}
use lib.ListN.{length, take}
use Rattle.text.specs.Contract.{filled_to, Wrote}
use Rattle.text.proofs.Buffers.{wrote_read}
use Rattle.text.proofs.Laws.{clash}
use Rattle.streams.specs.Contract.{Prints}
use Rattle.streams.specs.declared.standard_output.Output.{Output}
use Rattle.checker.specs.Contract.{report_bytes, PrintsFilled, Reports}

-- how many bytes are told, and whether they are
abbrev told : Option ℕ → ℕ
told (Some n) = n
told None = 0

abbrev is_done : Option ℕ → ℕ
is_done (Some n) = 1
is_done None = 0

-- what was put into the buffer, printed
pub filled_done : (filled : Option ℕ) (n : ℕ) (out : List ℕ) (before after : Output) → filled ≡ Some n → Prints (take n out) before after → PrintsFilled filled out before after
filled_done filled n out before after e p = record { prints = λ m f. let g : n ≡ m = ap told (sym e ∙ f) in rw (← g) p }

-- nothing is said of what had no room
pub filled_full : (filled : Option ℕ) (out : List ℕ) (before after : Output) → filled ≡ None → PrintsFilled filled out before after
filled_full filled out before after e = record { prints = λ m f. clash (ap is_done (sym e ∙ f)) }

-- what has room is all there
room : (size m : ℕ) → m ≤ size → filled_to size m ≡ Some m
unfolding filled_to
room size m h = rw (le-leb m size h)

-- a report that was put into its buffer and printed from there was handed on
pub reported : (old new report : List ℕ) (filled : Option ℕ) (before after : Output) → Wrote old new 0 report filled → length old ≡ report_bytes → PrintsFilled filled new before after → Reports report before after
reported old new report filled before after w e p =
    record {
      prints = λ h.
          let k : 0 + length report ≤ length old = omega (arith, e, h) in
          let d : filled ≡ Some (0 + length report) = w.answer ∙ room (length old) (0 + length report) k in
          let t : take (0 + length report) new ≡ report = wrote_read w d in
          rw t at (p.prints (0 + length report) d);
    }
