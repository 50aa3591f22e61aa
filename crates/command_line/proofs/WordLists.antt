-- The words from a place on, and those in front of it.
use Rattle.std.proofs.Common.{◌≡◌, ℕ, ◌+◌, ◌<◌, ◌≤◌, List, [], ◌∷◌, ◌++◌, length, get_or, take, drop}
use Rattle.std.proofs.lemmas.List.{drop_more, drop_all, drop-drop, take_more, length-take-le}
use Rattle.command_line.specs.declared.word.Known.{Known}
use Rattle.command_line.specs.declared.word.Word.{Word}
use Rattle.command_line.specs.declared.word.Word.TheVariants.{Operand}

-- the next word and those behind it
pub next : (ws : List Word) (i : ℕ) → i < length ws → drop i ws ≡ get_or ws i Operand ∷ drop (i + 1) ws
next ws i h = drop_more ws i Operand h

-- there is none
pub none : (ws : List Word) (i : ℕ) → length ws ≤ i → drop i ws ≡ []
none ws i h = drop_all i ws h

-- one word more behind those
pub further : (ws : List Word) (i : ℕ) → drop 1 (drop i ws) ≡ drop (i + 1) ws
further ws i = drop-drop 1 i ws

-- one word more among the first
pub grown : (ws : List Word) (i : ℕ) → i < length ws → take (i + 1) ws ≡ take i ws ++ (get_or ws i Operand ∷ [])
grown ws i h = take_more ws i Operand h

-- as many of the first words
pub first_words : (ws : List Word) (n : ℕ) → n ≤ length ws → length (take n ws) ≡ n
first_words ws n h = length-take-le n ws h

-- what the check takes for an option beyond the table's end
abbrev no_option : Known
no_option = record { text = record { ref_ptr = (0, 0); now = [] }; word = Operand }

-- the next option of the table and those behind it
pub next_option : (os : List Known) (i : ℕ) → i < length os → drop i os ≡ get_or os i no_option ∷ drop (i + 1) os
next_option os i h = drop_more os i no_option h

-- there is none
pub none_left : (os : List Known) (i : ℕ) → length os ≤ i → drop i os ≡ []
none_left os i h = drop_all i os h
