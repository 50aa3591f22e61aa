-- Figures worked by hand: a permit on Monday at 10:00, half an hour old; no entry; a record of another version.
use mathlib.Core.Path.{◌≡◌, refl}
use mathlib.Core.List.{List, [], ◌∷◌}
use Prim.Native.Nat.{ℕ}
use lib.ListN.{get_or}
use Rattle.text.specs.Lists.{count}
use Rattle.record.specs.Layout.{unpacked_bits, number_from, fields_of, age_from, is_below, size_of}
use Rattle.record.specs.Stored.{known}
use Rattle.record.specs.Read.{read_bits, record_in, record_told}
use Rattle.figures.specs.Figures.{fields_shown, how_many, total, refused_of, below_zero, is_from_zero, from_zero, table, figures_of}

abbrev three : List (List ℕ)
three = (32 ∷ 0 ∷ 7 ∷ 9 ∷ 98 ∷ 0 ∷ 0 ∷ 30 ∷ []) ∷ (34 ∷ 0 ∷ 0 ∷ 0 ∷ 1 ∷ 0 ∷ 0 ∷ 0 ∷ []) ∷ (90 ∷ 0 ∷ 0 ∷ 0 ∷ 0 ∷ 0 ∷ 0 ∷ 0 ∷ []) ∷ []

of_three :
    (get_or (figures_of three).answers 0 0 ≡ 1) × (get_or (figures_of three).answers 2 0 ≡ 1)
    × ((figures_of three).weekdays ≡ 2 ∷ 0 ∷ 0 ∷ 0 ∷ 0 ∷ 0 ∷ 0 ∷ []) × (get_or (figures_of three).hours 10 0 ≡ 1)
    × ((figures_of three).sum ≡ 30) × ((figures_of three).ages ≡ 1) × ((figures_of three).below ≡ 0)
    × ((figures_of three).refused ≡ 1) × ((figures_of three).given ≡ 3)
unfolding figures_of table how_many total refused_of count below_zero is_from_zero from_zero fields_shown record_told record_in read_bits unpacked_bits number_from fields_of age_from known is_below size_of
of_three = (refl, refl, refl, refl, refl, refl, refl, refl, refl)
