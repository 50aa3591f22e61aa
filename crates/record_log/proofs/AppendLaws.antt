-- Laws of what was handed to a log's file.
use Rattle.std.proofs.Common.{◌≡◌, ℕ, ◌≤◌, List, length, take, refl, sym, ap, ◌∙◌}
use Rattle.streams.specs.Contract.{counted_on}
use Rattle.streams.proofs.CountLaws.{counted_none}
use Rattle.record_log.specs.declared.appended.Appended.{Appended}
use Rattle.record_log.specs.Appending.{AppendsFirst}

-- nothing waits
pub appends_none : (waiting : ℕ) (records : List ℕ) (a : Appended) → length (take waiting records) ≡ 0 → a.bytes ≤ 18446744073709551615 → AppendsFirst waiting records a a
appends_none waiting records a e h = record { bytes = counted_none a.bytes h ∙ ap (counted_on a.bytes) (sym e); nothing = λ z. refl; whole = λ t. t }
