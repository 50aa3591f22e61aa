-- What only contracts and proofs cite.
use Rattle.std.specs.Prelude.{◌≡◌, List, ℕ, ◌≤◌, length}
use Rattle.command_line.specs.Word.{KnownOption, known}
use Rattle.command_line.specs.Options.{option_count}
use Rattle.command_line.specs.declared.word.Known.{Known}
use Rattle.command_line.specs.declared.word.Word.{Word}
use Rattle.command_line.specs.declared.word.Word.TheVariants.{Operand}

-- an option of the code's table
abbrev pub written : Known → KnownOption
written k = known k.text.now k.word

-- so many of the words belong to the options
pub record CountsOptions (words : List Word) (r : ℕ) : Type 0 where
  pub count : r ≡ option_count Operand words
  pub within : r ≤ length words
