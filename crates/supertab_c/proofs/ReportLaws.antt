-- The numbers of the report. Assumes nothing.
use mathlib.Core.Path.{◌≡◌, refl, ◌∙◌}
use mathlib.Core.List.{List, ◌++◌, map}
use Prim.Native.Nat.{ℕ, ◌+◌}
use lib.IntN.{ℤ}
use lib.ListN.{length, drop}
use lib.Seq.{drop_at}
use Rattle.fault.specs.declared.Cause.{Cause}
use Rattle.fault.specs.Contract.{causes, IndexOf}
use Rattle.fault.proofs.Causes.{by_index, agree_at}
use Rattle.answer.specs.declared.Answer.{Answer}
use Rattle.answer.specs.declared.Answer.TheVariants.{Permit, Password, NoEntry, StoppedByNargs, StoppedByArgument, StoppedByPath, MalformedQuestion, LongTable, RefusedByte, CutShort, RefusedLine, SmallBuffer}
use Rattle.supertab_c.specs.Report.{report_length, counted, cause_index, grant_numbers, place_numbers, report_of}
use mir.Syntax.{w64}
use mir.Val.{SFits, to_z, of_z}
use mir.ValLaws.{to_z-of_z}

-- the causes, counted from 1: one computed test
counts : by_index (λ i. counted (i + 1)) 0 causes ≡ map cause_index causes
unfolding counted cause_index
counts = refl

pub cause_counted : {z : ℤ} (c : Cause) (i : ℕ) → IndexOf c i → SFits w64 z → z ≡ counted (i + 1) → to_z w64 (of_z w64 z) ≡ cause_index c
cause_counted {z} c i h f e = to_z-of_z w64 z f ∙ e ∙ agree_at (λ i. counted (i + 1)) cause_index counts c i h

-- every answer has 24 numbers
pub report_length_law : (a : Answer) → length (report_of a) ≡ report_length
unfolding report_of grant_numbers place_numbers
report_length_law (Permit g) = refl
report_length_law (Password g) = refl
report_length_law NoEntry = refl
report_length_law (StoppedByNargs line) = refl
report_length_law (StoppedByArgument line) = refl
report_length_law (StoppedByPath line) = refl
report_length_law MalformedQuestion = refl
report_length_law LongTable = refl
report_length_law (RefusedByte place) = refl
report_length_law (CutShort place) = refl
report_length_law (RefusedLine cause place) = refl
report_length_law SmallBuffer = refl

-- so the later numbers of the lent report stay where they were
pub later_stay : (a : Answer) (r : List ℤ) → drop report_length (report_of a ++ drop report_length r) ≡ drop report_length r
later_stay a r = drop_at (report_of a) (drop report_length r) report_length (report_length_law a)
