-- Quotes (01: "Quotes, single or double, keep blanks and `#` inside a field and are removed").
use Rattle.std.specs.Prelude.{ℕ, cond}
use Rattle.text.specs.Bytes.{is}
use Rattle.text.specs.declared.quote.Quoting.{Quoting}
use Rattle.text.specs.declared.quote.Quoting.TheVariants.{Outside, Single, Double}

-- the quoting behind a byte: inside one kind of quotes the other kind is plain
unfoldable pub quoting_after : Quoting → ℕ → Quoting
quoting_after Outside b = cond (is "'" b) Single (cond (is "\"" b) Double Outside)
quoting_after Single b = cond (is "'" b) Outside Single
quoting_after Double b = cond (is "\"" b) Outside Double
