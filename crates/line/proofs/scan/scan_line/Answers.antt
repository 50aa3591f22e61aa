use Rattle.line.proofs.ScanLaws.{scans, first_blank}
use Rattle.line.proofs.scan.scan_line.Goals as goal

pub returns : goal.returns
returns c = scans c.loop-scanner.invariant c.loop-scanner-test.false c.close-counts.ensures (rw (c.is_indented-indented.ensures, c.is_closed.ensures, c.is_blank.ensures, c.first_byte-first.ensures, first_blank _) at c.judge.ensures)
