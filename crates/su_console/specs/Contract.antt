-- What the contracts of the functions say: where the pieces of a line are, and what `respond_su` leaves in the buffer.
use Rattle.std.specs.Prelude.{◌≡◌, List, [], ℕ, ◌+◌, ◌≤◌, ◌<◌, length, None, Option, Some}
use Rattle.suauth.specs.Meaning.{Asked}
use Rattle.console.specs.QuestionLine.{line_limit}
use Rattle.console.specs.Contract.{part, Writes}
use Rattle.su_console.specs.declared.question_line.SuPieces.{SuPieces}
use Rattle.console.specs.declared.respond.Written.{Written}
use Rattle.su_console.specs.Response.{su_response}

-- what the pieces in the line and in the scratch ask
abbrev pub su_asked_by : List ℕ → List ℕ → (Option SuPieces) → Option Asked
su_asked_by line scratch None = None
su_asked_by line scratch (Some p) = Some (record {
  target = part line 0 p.target;
  user = part line (p.target + 1) p.user;
  groups = part scratch 0 p.groups;
})

-- the places of the pieces lie in the line and in the scratch, one behind the other
abbrev pub SuPlaced : List ℕ → (Option SuPieces) → Type 0
SuPlaced line None = Unit {0}
SuPlaced line (Some p) = (p.target < p.user) × (p.user < length line) × (p.groups ≤ line_limit)

-- a line was read, as asking this, into a scratch that kept its length
pub record SuReads (line : List ℕ) (asked : Option Asked) (scratch : List ℕ) (r : (Option SuPieces)) : Type 0 where
  pub size : length scratch ≡ line_limit
  pub asks : su_asked_by line scratch r ≡ asked
  pub placed : SuPlaced line r

-- a line was answered from a su file: the response, and no record
abbrev pub SuResponds : (file line old new : List ℕ) → Option Written → Type 0
SuResponds file line old new = Writes (su_response file line) [] old new [] []
