-- What the contracts of the functions say: a test of zero-ended strings, and whether there is a question.
use Rattle.std.specs.Prelude.{ℕ, Bool, true, false, List, [], ◌∷◌, eqb, None, Option, Some}
use Rattle.text.specs.Contract.{lead}
use Rattle.text.specs.Lists.{with_byte}
use Rattle.question.specs.Question.{Question, user_bytes, most_groups, most_arguments, good_name, good_argument}
use Rattle.question.specs.declared.form.Listed.{Listed}
use Rattle.question.specs.declared.form.Listed.TheVariants.{Groups, Arguments}

-- a test of the strings; a list that has none fails it
abbrev pub when_strings : (List (List ℕ) → Bool) → Option (List (List ℕ)) → Bool
when_strings test None = false
when_strings test (Some ps) = test ps

-- how many strings a list may hold
abbrev pub most_of : Listed → ℕ
most_of Groups = most_groups
most_of Arguments = most_arguments

-- whether a string of a list is good
abbrev pub good_of : Listed → List ℕ → Bool
good_of Groups = good_name user_bytes
good_of Arguments = good_argument

-- whether there is a question
abbrev pub is_question : Option Question → Bool
is_question None = false
is_question (Some q) = true

-- the strings of any list, bytes behind the last zero left out; where `strings_of` is something, the same strings
unfoldable pub strings_in : List ℕ → List (List ℕ)
strings_in [] = []
strings_in (b ∷ s) = with_byte (eqb b 0) b (strings_in s)

-- how many bytes stand before the first zero, or before the end
abbrev pub until_zero : List ℕ → ℕ
until_zero = lead 0
