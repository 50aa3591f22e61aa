-- What the time items of an entry decide together (01, "Entries").
use Rattle.std.specs.Option.{unwrap_or}
use Rattle.std.specs.List.{list_all}
use Rattle.std.specs.Prelude.{Bool, List}
use Rattle.condition.specs.Rightmost.{Judged, rightmost}

-- "If none matches: accepted when there is no time item or all are negated, else not"
unfoldable pub times_accept : List Judged → Bool
times_accept xs = unwrap_or (rightmost xs) (list_all (λ x. x.negated) xs)
