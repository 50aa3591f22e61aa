-- The line that is printed for a record, with the newline at its end: `NUMBER LINE MINUTE AUTH AGE`, or `refused N`.
use Rattle.question.specs.declared.Age.{Age}
use Rattle.std.specs.Prelude.{Bool, cond, List, [], ◌++◌, ℕ, ℤ, pos, nat_abs, None, Option, Some, Result, Ok, Err}
use Rattle.std.specs.Int.Signed.{lt_z}
use Rattle.text.specs.Bytes.{bytes}
use Rattle.output.specs.Decimal.{decimal}
use Rattle.record.specs.declared.Fields.{Fields}
use Rattle.record.specs.declared.RecordFault.{RecordFault}
use Rattle.record.specs.Fault.{fault_number}

-- minutes with their sign
unfoldable pub minutes_text : ℤ → List ℕ
unfolding decimal
minutes_text z = cond (lt_z z (pos 0)) (bytes "-") [] ++ decimal (nat_abs z)

-- `never`, or a number
unfoldable pub age_text : Option Age → List ℕ
unfolding minutes_text
age_text None = bytes "never"
age_text (Some a) = minutes_text a.0

-- 0 or 1
unfoldable pub auth_text : Bool → List ℕ
auth_text auth = cond auth (bytes "1") (bytes "0")

-- the fields of a record, with single spaces
unfoldable pub fields_text : Fields → List ℕ
unfolding decimal age_text auth_text
fields_text f =
    decimal f.number ++ bytes " " ++ decimal f.line ++ bytes " " ++ decimal f.minute.0 ++ bytes " "
    ++ auth_text f.auth ++ bytes " " ++ age_text f.age ++ bytes "\n"

-- a refusal by its number
unfoldable pub refused_text : ℕ → List ℕ
unfolding decimal
refused_text number = bytes "refused " ++ decimal number ++ bytes "\n"

-- the line of a record: what is shown, or the refusal
unfoldable pub record_text : Result Fields RecordFault → List ℕ
unfolding fields_text refused_text
record_text (Ok f) = fields_text f
record_text (Err fault) = refused_text (fault_number fault)
