use mathlib.Core.Path.{sym}
use native.Mathlib.Omega.{arith}
use Rattle.text.proofs.Buffers.{wrote_length, wrote_done}
use Rattle.checker.proofs.ReportLaws.{reported}
use Rattle.checker.proofs.table.print_report.Goals as goal

pub print_filled-requires : goal.print_filled-requires
print_filled-requires c = λ n e. let w = c.explain-filled.ensures in omega (arith, wrote_length w, (wrote_done w e).0)

pub returns : goal.returns
returns c = reported _ _ _ _ _ _ c.explain-filled.ensures (sym c.report_buffer-out.ensures) c.print_filled.ensures
