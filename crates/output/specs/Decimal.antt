-- A number written in decimal digits, without leading zeros.
use Rattle.std.specs.Prelude.{Bool, true, false, List, [], ◌∷◌, ◌++◌, ℕ, zero, suc, ◌+◌, ◌/◌, ◌%◌, ltb}
use Rattle.text.specs.Bytes.{byte}

-- the byte of a digit
abbrev pub digit_byte : ℕ → ℕ
digit_byte d = byte "0" + d

-- a number below ten is one digit; any other, the digits of its tens and then that of its ones
abbrev pub last_digit : Bool → (ℕ → List ℕ) → ℕ → List ℕ
last_digit true tens n = digit_byte n ∷ []
last_digit false tens n = tens (n / 10) ++ digit_byte (n % 10) ∷ []

-- n written with at most so many digits
unfoldable pub written : ℕ → ℕ → List ℕ
written zero n = []
written (suc most) n = last_digit (ltb n 10) (λ k. written most k) n

-- n in decimal digits, without leading zeros; n + 1 digits are more than enough
unfoldable pub decimal : ℕ → List ℕ
unfolding written
decimal n = written (suc n) n
