-- A list of bytes parted at a byte, or at two.
use Rattle.std.specs.Option.{option_map}
use Rattle.std.specs.Prelude.{ℕ, cond, ◌&&◌, List, [], ◌∷◌, eqb, drop, None, Option, Some}
use Rattle.text.specs.Slice.{head_is}

-- the bytes in front of where a text is parted, and those behind it
pub record Parts : Type 0 where
  pub front : List ℕ
  pub back : List ℕ

-- one byte more in front
abbrev pub with_first : ℕ → Parts → Parts
with_first b p = record { front = b ∷ p.front; back = p.back }

-- the text parted at its first byte c; none where there is no such byte
unfoldable pub part_at : ℕ → List ℕ → Option Parts
part_at c [] = None
part_at c (b ∷ s) = cond (eqb b c) (Some (record { front = []; back = s })) (option_map (with_first b) (part_at c s))

-- the text parted at its first c with d behind it
unfoldable pub part_at_pair : ℕ → ℕ → List ℕ → Option Parts
unfolding head_is
part_at_pair c d [] = None
part_at_pair c d (b ∷ s) = cond (eqb b c && head_is d s) (Some (record { front = []; back = drop 1 s })) (option_map (with_first b) (part_at_pair c d s))
