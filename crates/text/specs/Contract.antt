-- What the contracts of the functions say: alphabets, places in a slice, bytes laid into a lent buffer.
use Rattle.std.specs.Prelude.{ℕ, suc, ◌+◌, ◌≡◌, Bool, cond, List, [], ◌∷◌, eqb, leb, ltb, length, None, Option, Some}
use Rattle.text.specs.Class.{word_byte, name_byte, printable, command_byte}
use Rattle.text.specs.Buffer.{laid}
use Rattle.text.specs.declared.alphabet.Alphabet.{Alphabet}
use Rattle.text.specs.declared.alphabet.Alphabet.TheVariants.{Name, Word, Printable, Command}

-- the byte is of the alphabet
abbrev pub in_alphabet : Alphabet → ℕ → Bool
in_alphabet Name = name_byte
in_alphabet Word = word_byte
in_alphabet Printable = printable
in_alphabet Command = command_byte

-- how many bytes stand in front of the first c, or of the end
unfoldable pub lead : ℕ → List ℕ → ℕ
lead c [] = 0
lead c (b ∷ s) = cond (eqb b c) 0 (suc (lead c s))

-- the first place, counted from `at`, where c stands
unfoldable pub find_byte : ℕ → ℕ → List ℕ → Option ℕ
unfolding lead
find_byte c at s = cond (ltb (lead c s) (length s)) (Some (at + lead c s)) None

-- the answer of a writer, where m is the place after the last byte
unfoldable pub filled_to : ℕ → ℕ → Option ℕ
filled_to size m = cond (leb m size) (Some m) None

-- xs was laid into the buffer from n on, and r says whether all of it fitted
pub record Wrote (old new : List ℕ) (n : ℕ) (xs : List ℕ) (r : Option ℕ) : Type 0 where
  pub answer : r ≡ filled_to (length old) (n + length xs)
  pub bytes : new ≡ laid old n xs
