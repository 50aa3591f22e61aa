use Rattle.std.specs.List.{list_all}
use Rattle.std.specs.Slice.Iter.{chunks_exact_rest, chunks_exact_size}
use Rattle.std.proofs.Common.{◌≡◌}
use Rattle.figures.specs.Figures.{records_of}
use Rattle.record_log.specs.Recognised.{is_record}
use Rattle.record_log.proofs.recognise.all_records.Given as goal

abbrev pub invariant-loop-bytes : goal.invariant-loop-bytes
invariant-loop-bytes l =
    (chunks_exact_size l.bytes-iterator ≡ 8)
    × (list_all is_record (records_of (chunks_exact_rest l.bytes-iterator)) ≡ list_all is_record (records_of l.block))
