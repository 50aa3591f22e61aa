use mathlib.Core.Path.{sym}
use native.Mathlib.Omega.{arith}
use Rattle.text.proofs.Laws.{part_start}
use Rattle.text.proofs.Buffers.{wrote_length, wrote_done}
use Rattle.summary.proofs.GatherLaws.{prints_done, prints_full}
use Rattle.summary.proofs.gather.print_summary.Goals as goal

pub slice_bounds-write_lines-end : goal.slice_bounds-write_lines-end
slice_bounds-write_lines-end c = let w = c.put_summary.ensures in omega (arith, wrote_length w, (wrote_done w c.in-Some.is).0)

pub write_lines-requires : goal.write_lines-requires
write_lines-requires c = part_start c.in-Some.n c.put_summary.new.out

pub returns-in-Some : goal.returns-in-Some
returns-in-Some c = prints_done (sym c.zeros-out.ensures) c.put_summary.ensures c.in-Some.is c.write_lines.ensures

pub returns-in-None : goal.returns-in-None
returns-in-None c = prints_full (sym c.zeros-out.ensures) c.put_summary.ensures c.in-None.is
