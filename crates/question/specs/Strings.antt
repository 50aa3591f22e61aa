-- Zero-ended strings, one after the other: the form of the groups and of the arguments.
use Rattle.std.specs.Prelude.{ℕ, Bool, true, false, List, [], ◌∷◌, eqb, None, Option, Some}

-- a byte in front of strings: a zero ends an empty string, any other byte belongs to the first string and needs one
abbrev pub in_front : ℕ → Bool → Option (List (List ℕ)) → Option (List (List ℕ))
in_front b ends None = None
in_front b true (Some ps) = Some ([] ∷ ps)
in_front b false (Some []) = None
in_front b false (Some (p ∷ ps)) = Some ((b ∷ p) ∷ ps)

-- the strings of a list; no bytes are no string, and a list whose last byte is not zero is none
unfoldable pub strings_of : List ℕ → Option (List (List ℕ))
strings_of [] = Some []
strings_of (b ∷ s) = in_front b (eqb b 0) (strings_of s)
