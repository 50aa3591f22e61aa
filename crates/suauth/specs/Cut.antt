-- Demand 3 for su files: what a file cut after n of its bytes answers, "no rule" standing for "no entry" (02 (xiv)).
use Rattle.std.specs.Prelude.{ℕ, ◌≤◌, ◌≡◌, Bool, true, cond, ◌||◌, List, ltb, length, take}
use Rattle.line.specs.Line.{no_byte, lines_of, ends_at, cut_place, end_of_line}
use Rattle.suauth.specs.declared.SuAnswer.{SuAnswer}
use Rattle.suauth.specs.declared.SuAnswer.TheVariants.{NoRule, CutShort}
use Rattle.suauth.specs.Answer.{told_of, is_decision, says_no_rule, line_told}
use Rattle.suauth.specs.Meaning.{Asked, answer_of}

-- the whole says "no rule", or its deciding line ends after n
unfoldable pub nothing_yet : List ℕ → ℕ → SuAnswer → Bool
unfolding told_of
nothing_yet t n whole = says_no_rule (told_of whole) || ltb n (end_of_line (line_told (told_of whole)) (lines_of no_byte t))

-- what t cut at n must answer: by whether a line ends at n, or n is 0
unfoldable pub cut_answer : List ℕ → ℕ → SuAnswer → SuAnswer
unfolding nothing_yet
cut_answer t n whole = cond (ends_at no_byte t n) (cond (nothing_yet t n whole) NoRule whole) (CutShort (cut_place no_byte t n))

-- the answer of t cut at n beside that of the whole, where the whole gives a decision
abbrev pub CutAt : List ℕ → ℕ → SuAnswer → SuAnswer → Type 0
CutAt t n whole part = is_decision whole ≡ true → part ≡ cut_answer t n whole

-- demand 3, for all files, questions and cuts at once
abbrev pub CutSafe : Type 0
CutSafe = (t : List ℕ) (a : Asked) (n : ℕ) → n ≤ length t → CutAt t n (answer_of t a) (answer_of (take n t) a)
