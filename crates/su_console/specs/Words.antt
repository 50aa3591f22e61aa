-- The words that say what is wrong with a su file and what to do: one sentence for each refusal of a file.
use Rattle.std.specs.Prelude.{ℕ, List}
use Rattle.text.specs.Bytes.{bytes}

-- of 11
unfoldable pub long_file_words : List ℕ
long_file_words = bytes "the su file has more than 32,768 bytes; remove comments or rules"

-- of 12
unfoldable pub su_refused_byte_words : List ℕ
su_refused_byte_words = bytes "a su file holds plain ASCII text only, and no carriage return, accented letter or curly quote; remove or replace this byte"

-- of 13
unfoldable pub su_cut_short_words : List ℕ
su_cut_short_words = bytes "the su file ends before this line does; copy the whole file again, or end the line with a newline"

-- of 14
unfoldable pub malformed_line_words : List ℕ
malformed_line_words = bytes "the line is not of the form TO:FROM:ACTION; write ALL, names parted by commas or ALL EXCEPT and such names on either side, GROUP before the names only in FROM, and DENY, NOPASS or OWNPASS at the end, with no blanks but single ones beside EXCEPT and behind GROUP"
