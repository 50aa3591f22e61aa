use Rattle.std.specs.Slice.Iter.{chunks_exact_rest, chunks_exact_size}
use Rattle.std.proofs.Common.{◌≡◌, ◌≤◌, length, take, drop}
use Rattle.log_text.specs.Contract.{Shows}
use Rattle.log_text.proofs.block.show_block.Given as goal

abbrev pub invariant-loop-bytes : goal.invariant-loop-bytes
invariant-loop-bytes l = record {
  size : chunks_exact_size l.bytes-iterator ≡ 8;
  rest : chunks_exact_rest l.bytes-iterator ≡ drop l.at l.block;
  reached : l.at ≤ length l.block;
  within : l.waiting ≤ length l.out;
  same : length l.out ≡ length l.initial.out;
  fresh : l.at ≡ 0 → l.waiting ≡ l.initial.waiting;
  shows : Shows l.block (take l.initial.waiting l.initial.out) l.at (take l.waiting l.out);
}
