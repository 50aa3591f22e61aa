-- The refusals of a record (02 (ii), "Refusals, own list").
use Rattle.std.specs.Prelude.{ℕ}
use Rattle.record.specs.declared.RecordFault.{RecordFault}
use Rattle.record.specs.declared.RecordFault.TheVariants.{OtherVersion, UnknownNumber, BadMinute, WrongLength}

-- "1 version, 2 answer number, 3 minute", "4 not eight bytes"
abbrev pub fault_number : RecordFault → ℕ
fault_number OtherVersion = 1
fault_number UnknownNumber = 2
fault_number BadMinute = 3
fault_number WrongLength = 4
