-- What the bytes of a file make of it: a log that more records can be appended to, or why it is none.
use Rattle.std.specs.List.{list_all}
use Rattle.std.specs.Prelude.{ℕ, ◌%◌, Bool, true, false, cond, List, eqb, is_ok, length}
use Rattle.text.specs.Lists.{null}
use Rattle.line.specs.Refused.{accepted}
use Rattle.record.specs.Layout.{record_length}
use Rattle.record.specs.Read.{record_in}
use Rattle.figures.specs.Figures.{records_of}
use Rattle.record_log.specs.declared.recognise.Kind.{Kind}
use Rattle.record_log.specs.declared.recognise.Kind.TheVariants.{Log, Text, Other, Cut}
use Rattle.record_log.specs.declared.recognise.Seen.{Seen}

-- the reader refuses it for nothing
unfoldable pub is_record : List ℕ → Bool
is_record s = is_ok (record_in s)

-- nothing at all, or whole records only with some byte that no table may have (01: 12)
unfoldable pub kind_of : List ℕ → Kind
kind_of s =
    cond (null s) Log
    (cond (list_all accepted s) Text
    (cond (list_all is_record (records_of s))
    (cond (eqb (length s % record_length) 0) Log Cut)
    Other))

-- what is kept of the bytes
unfoldable pub seen_in : List ℕ → Seen
seen_in s = record {
  empty = null s;
  textual = list_all accepted s;
  readable = list_all is_record (records_of s);
  whole = eqb (length s % record_length) 0;
}

-- the kind by what is kept
unfoldable pub kind_seen : Seen → Kind
kind_seen k = cond k.empty Log (cond k.textual Text (cond k.readable (cond k.whole Log Cut) Other))

-- records may be appended to a log alone
unfoldable pub takes_records : Kind → Bool
takes_records Log = true
takes_records Text = false
takes_records Other = false
takes_records Cut = false
