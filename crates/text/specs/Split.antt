-- The parts between the bytes of one kind that an iterator over them has still to give.
use Rattle.std.specs.List.{slice_split}
use Rattle.std.specs.Option.{option_copied}
use Rattle.std.specs.Prelude.{ℕ, List, [], eqb, None, Option, Some}
use Rattle.text.specs.declared.split.Split.{Split}

-- none where nothing is left; else one more than there are such bytes
abbrev pub parts_of : ℕ → Option (List ℕ) → List (List ℕ)
parts_of c None = []
parts_of c (Some s) = slice_split (λ b. eqb b c) s

-- the parts that are still to come
abbrev pub parts_left : Split → List (List ℕ)
parts_left p = parts_of p.byte (option_copied p.rest)
