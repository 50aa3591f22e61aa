use Rattle.std.proofs.Common.{◌+◌, ◌≤◌, ◌≡◌, length, drop}
use Rattle.std.specs.Slice.Iter.{chunks_exact_rest, chunks_exact_size}
use Rattle.text.specs.Contract.{lead}
use Rattle.text.proofs.slice.lead.Given as goal

abbrev pub invariant-loop-block : goal.invariant-loop-block
invariant-loop-block l =
    (chunks_exact_size l.block-iterator ≡ 16) × (l.from ≤ length l.s) × (chunks_exact_rest l.block-iterator ≡ drop l.from l.s)
    × (l.from + lead l.c (drop l.from l.s) ≡ lead l.c l.s)

abbrev pub invariant-loop-i : goal.invariant-loop-i
invariant-loop-i l = l.i + lead l.c (drop l.i l.s) ≡ lead l.c l.s
