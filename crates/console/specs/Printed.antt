-- The line that is printed for an answer (01, at the end of "One table, worked through"), with the newline at its end.
use Rattle.std.specs.Prelude.{cond, List, [], ◌++◌, ℕ, eqb}
use Rattle.text.specs.Bytes.{bytes}
use Rattle.text.specs.Lists.{null}
use Rattle.answer.specs.Answer.{Grant, Beside, granted, at_line, at_place, Told}
use Rattle.output.specs.Decimal.{decimal}

-- "Set options follow a path as ` uid=x`"; an id that is not set is empty
unfoldable pub id_text : List ℕ → List ℕ → List ℕ
id_text name id = cond (null id) [] (name ++ id)

-- the word of a permit: 0 permit, 1 permit after password
abbrev pub permit_word : ℕ → List ℕ
permit_word number = cond (eqb number 0) (bytes "permit ") (bytes "password ")

-- "in the order uid, euid, gid, egid"
unfoldable pub grant_text : List ℕ → Grant → List ℕ
unfolding id_text decimal
grant_text word g =
    word ++ decimal g.line ++ bytes " " ++ g.path
    ++ id_text (bytes " uid=") g.uid
    ++ id_text (bytes " euid=") g.euid
    ++ id_text (bytes " gid=") g.gid
    ++ id_text (bytes " egid=") g.egid
    ++ bytes "\n"

-- why the deciding entry stops: 3 nargs, 4 an argument pattern, 5 a path that is too long
abbrev pub stop_word : ℕ → List ℕ
stop_word number = cond (eqb number 3) (bytes " nargs\n") (cond (eqb number 4) (bytes " arg\n") (bytes " path\n"))

-- "4 prints `stopped LINE arg`, 5 `stopped LINE path`"
unfoldable pub stop_text : ℕ → ℕ → List ℕ
unfolding decimal
stop_text number line = bytes "stopped " ++ decimal line ++ stop_word number

-- "A refusal prints `refused NUMBER PLACE`"
unfoldable pub refusal_text : ℕ → ℕ → List ℕ
unfolding decimal
refusal_text number place = bytes "refused " ++ decimal number ++ bytes " " ++ decimal place ++ bytes "\n"

-- what is printed, by the number and what stands beside it; 2 prints `none`
abbrev pub printed_beside : ℕ → Beside → List ℕ
printed_beside number (granted g) = grant_text (permit_word number) g
printed_beside number (at_line line) = cond (eqb number 2) (bytes "none\n") (stop_text number line)
printed_beside number (at_place place) = refusal_text number place

-- the printed line of an answer
unfoldable pub printed : Told → List ℕ
unfolding grant_text stop_text refusal_text
printed t = printed_beside t.number t.beside
