use Rattle.line.specs.Contract.{start_of, Goes}
use Rattle.line.specs.Joined.{begins}
use Rattle.text.specs.Bytes.{is}
use lib.ListN.{length}
use Prim.Native.Nat.{◌-◌}
use Rattle.line.proofs.scan.scan_line.Given as goal

abbrev pub invariant-loop-scanner : goal.invariant-loop-scanner
invariant-loop-scanner l = Goes l.line (start_of (begins (is "#") l.line)) l.initial.text l.initial.ends l.scanner l.text l.ends

abbrev pub decreases-loop-scanner : goal.decreases-loop-scanner
decreases-loop-scanner l = length l.line - l.scanner.at
