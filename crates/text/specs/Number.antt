-- Decimal numbers (01: "Numbers are 1 to 5 digits").
use Rattle.std.specs.Prelude.{ℕ, ◌+◌, ◌*◌, ◌-◌, cond, List, [], ◌∷◌, length, None, Option, Some}
use Rattle.text.specs.Bytes.{byte}
use Rattle.text.specs.Class.{within, digit}

-- the most digits of a number
abbrev pub most_digits : ℕ
most_digits = 5

-- v, and the digits that follow it
unfoldable pub digits : ℕ → List ℕ → Option ℕ
digits v [] = Some v
digits v (b ∷ s) = cond (digit b) (digits (v * 10 + (b - byte "0")) s) None

-- one to five digits, or none
unfoldable pub decimal_of : List ℕ → Option ℕ
unfolding digits
decimal_of s = cond (within 1 most_digits (length s)) (digits 0 s) None
