-- What refuses a text as a whole: 11 by its length, 12 by a byte, 13 by its last line; faults in its lines are not looked for.
use Rattle.std.specs.Prelude.{ℕ, Bool, not, List, leb, length, Err, None, Ok, Option, Result, Some}
use Rattle.fault.specs.Fault.{require}
use Rattle.line.specs.declared.whole.Unaccepted.{Unaccepted}
use Rattle.line.specs.declared.whole.Unaccepted.TheVariants.{Long, RefusedAt}
use Rattle.line.specs.declared.whole.NotWhole.{NotWhole}
use Rattle.line.specs.declared.whole.NotWhole.TheVariants.{Long as NotWholeLong, RefusedAt as NotWholeRefusedAt, CutAt}
use Rattle.line.specs.Line.{table_limit, lines_of, last_end, cut_short}
use Rattle.line.specs.Refused.{refused_byte}

-- by the place of the first refused byte, if there is one
abbrev pub by_byte : Option ℕ → Result Unit Unaccepted
by_byte None = Ok tt
by_byte (Some p) = Err (RefusedAt p)

-- 11, then 12 with the first such byte: whether a text is accepted before its lines are looked at
abbrev pub acceptance_of : List ℕ → Result Unit Unaccepted
acceptance_of t = require (leb (length t) table_limit) Long (by_byte (refused_byte t))

-- a text that is not accepted is not whole
abbrev pub not_whole : Unaccepted → NotWhole
not_whole Long = NotWholeLong
not_whole (RefusedAt p) = NotWholeRefusedAt p

-- 13 where the last line begins, of a text that is accepted
abbrev pub whole_by : (ℕ → Bool) → List ℕ → Result Unit Unaccepted → Result Unit NotWhole
whole_by continues t (Err e) = Err (not_whole e)
whole_by continues t (Ok x) = require (not (cut_short continues t)) (CutAt (last_end 0 (lines_of continues t))) (Ok tt)

-- 11, 12, then 13: too long, a byte that no text may have, a last line that does not end
unfoldable pub whole_text : (ℕ → Bool) → List ℕ → Result Unit NotWhole
whole_text continues t = whole_by continues t (acceptance_of t)
