-- What the contracts of the reports say.
use Rattle.std.specs.Prelude.{◌≡◌, List, ℕ, ◌≤◌, length, take, Option, Some}
use Rattle.streams.specs.Contract.{Prints}
use Rattle.streams.specs.declared.standard_output.Output.{Output}

-- the most bytes of a report
abbrev pub report_bytes : ℕ
report_bytes = 81920

-- what was put into the buffer was handed on, if all had room
pub record PrintsFilled (filled : Option ℕ) (out : List ℕ) (before after : Output) : Type 0 where
  pub prints : (n : ℕ) → filled ≡ Some n → Prints (take n out) before after

-- the report was handed on, if it is one of at most so many bytes
pub record Reports (report : List ℕ) (before after : Output) : Type 0 where
  pub prints : length report ≤ report_bytes → Prints report before after
