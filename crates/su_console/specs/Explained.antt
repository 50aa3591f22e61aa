-- What `supertab --check --su` prints for an answer, in the form of `supertab --check` (docs/check-words.md).
use Rattle.std.specs.Prelude.{ℕ, List, ◌++◌}
use Rattle.text.specs.Bytes.{bytes}
use Rattle.suauth.specs.declared.SuAnswer.{SuAnswer}
use Rattle.suauth.specs.declared.SuAnswer.TheVariants.{Deny, NoPassword, OwnPassword, NoRule, MalformedQuestion, LongFile, RefusedByte, CutShort, MalformedLine}
use Rattle.explain.specs.Explained.{refusal, refusal_at, place_in, shown_name}
use Rattle.su_console.specs.Words.{long_file_words, su_refused_byte_words, su_cut_short_words, malformed_line_words}

-- what stands behind the file's name; of 10, which is no fault of a file, the number and the place
unfoldable pub su_finding : List ℕ → SuAnswer → List ℕ
su_finding file (Deny l) = bytes ": ok\n"
su_finding file (NoPassword l) = bytes ": ok\n"
su_finding file (OwnPassword l) = bytes ": ok\n"
su_finding file NoRule = bytes ": ok\n"
su_finding file MalformedQuestion = bytes ": refused 10 0\n"
su_finding file LongFile = refusal 11 long_file_words
su_finding file (RefusedByte p) = refusal_at file (place_in file p) 12 su_refused_byte_words
su_finding file (CutShort p) = refusal_at file (place_in file p) 13 su_cut_short_words
su_finding file (MalformedLine p) = refusal_at file (place_in file p) 14 malformed_line_words

-- what is printed for a file of this name
unfoldable pub su_explained : List ℕ → List ℕ → SuAnswer → List ℕ
unfolding shown_name su_finding
su_explained name file answer = shown_name name ++ su_finding file answer
