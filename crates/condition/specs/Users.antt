-- Users, groups and hosts: which alternatives apply, and what they decide together (01, "Entries").
use Rattle.std.specs.Option.{unwrap_or}
use Rattle.std.specs.Str.{bytes_eq}
use Rattle.std.specs.List.{list_any}
use Rattle.std.specs.Prelude.{ℕ, Bool, true, ◌&&◌, List, None, Option, Some}
use Rattle.text.specs.Bytes.{bytes}
use Rattle.glob.specs.Match.{matches}
use Rattle.matching.specs.Alternative.{Alternative}
use Rattle.condition.specs.Rightmost.{Judged, rightmost}

-- no host part, or one that matches the host
abbrev pub on_host : List ℕ → Option (List ℕ) → Bool
on_host host None = true
on_host host (Some p) = matches p host

-- "`PAT`, `user~PAT`, each with `@HOSTPAT` if wanted": the user matches, and the host
unfoldable pub user_applies : (user host : List ℕ) → Alternative → Bool
user_applies user host a = matches a.name user && on_host host a.host

-- "`group~PAT` (some group matches)", and the host
unfoldable pub group_applies : (groups : List (List ℕ)) (host : List ℕ) → Alternative → Bool
group_applies groups host a = list_any (matches a.name) groups && on_host host a.host

-- "If none applies, root is accepted and nobody else"
unfoldable pub users_accept : (user : List ℕ) → List Judged → Bool
users_accept user xs = unwrap_or (rightmost xs) (bytes_eq user (bytes "root"))
