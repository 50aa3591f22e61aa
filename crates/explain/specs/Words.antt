-- The words that say what is wrong and what to do: one sentence for each cause, and for 11, 12 and 13.
use Rattle.std.specs.Prelude.{ℕ, List}
use Rattle.text.specs.Bytes.{bytes}
use Rattle.fault.specs.declared.Cause.{Cause}
use Rattle.fault.specs.declared.Cause.TheVariants.{LineLength, Indent, OpenQuote, FieldCount, Variable, FieldLength, Pattern, PatternSize, NameLength, TextLength, IdLength, IfDepth, Alternative, TimeItem, OptionName, OptionValue, PatternKind, EntryTooEarly, ColonWord, DefineName, Operator, LatePair, Path, SurplusField, MissingPart, OptionTwice, TooManyNames}

-- of a control line's fault
unfoldable pub words_of : Cause → List ℕ
words_of LineLength = bytes "the line has more than 4,096 bytes, its continuation lines and comments counted; make several lines of it"
words_of Indent = bytes "the indent is wrong: a line that goes on from a backslash must begin with a blank, and any other line with a field must not; add or remove the blank"
words_of OpenQuote = bytes "a quote is still open at the end of the line; close it with the same quote, or remove it"
words_of FieldCount = bytes "the line has more than 64 fields; make several lines of it"
words_of Variable = bytes "a $ does not stand before a known name; correct the name, define it on an earlier line, or put the $ in single quotes"
words_of FieldLength = bytes "a field has more than 1,024 bytes once its variables are replaced; shorten it, or make several fields of it"
words_of Pattern = bytes "a pattern is broken: a [ or { is not closed, a set is empty or a range in it runs backwards, a } closes nothing, or a backslash is last; correct it, or put a backslash before a byte that stands for itself"
words_of PatternSize = bytes "the braces of a field are more than 4 deep or stand for more than 64 alternatives; make several fields or lines of it"
words_of NameLength = bytes "the name of a variable has more than 64 bytes; choose a shorter one"
words_of TextLength = bytes "the text of a variable has more than 256 bytes; shorten it, or share it out over several variables"
words_of IdLength = bytes "a user or group name in an option has more than 64 bytes; correct it"
words_of IfDepth = bytes "a fifth :if stands inside four others; leave one of them out"
words_of Alternative = bytes "a user, group or host pattern is empty, or has a colon, a ~, a second @ or a ! of its own; write USER@HOST, with ! and then user~, group~ or time~ only in front of it, and CmdPat::FullPath only first on the line"
words_of TimeItem = bytes "a time is in none of the forms 8:30-17/mon, >=8:30/mon (or >, <=, <) and mon; write it so, its start not after its end and nothing later than 24:00"
words_of OptionName = bytes "a field is none of the options that this line takes; correct the name before its =, or remove the field"
words_of OptionValue = bytes "an option does not take this value; write a user or group name for an id, y or n for auth, -32768 to 32767 for timeout, n or m-n up to 64 for nargs"
words_of PatternKind = bytes "no other kind of patterns is known than shell; write patterns=shell"
words_of EntryTooEarly = bytes "an entry stands before any line that says :global patterns=shell; put that line above it"
words_of ColonWord = bytes "no line begins with this word; write :define, :global, :global_options or :if"
words_of DefineName = bytes "the name behind :define is CALLER, HOST or IS_USERTAB, or not a letter or underscore followed by letters, digits and underscores; choose another"
words_of Operator = bytes "the second word behind :if is neither == nor !=; write one of them, with a blank on either side"
words_of LatePair = bytes "a :: stands in a path or an option; put all CmdPat::FullPath fields first on the line, and write no other ::"
words_of Path = bytes "the path does not begin with a slash, or has a blank in it; write it from the slash on, without blanks"
words_of SurplusField = bytes "a field stands behind the text of :define; put quotes round a text with blanks, or remove the field"
words_of MissingPart = bytes "a part of the line is missing; write a command, a path and a user or group in an entry, a name and a text behind :define, an option behind :global, A == B and a rest behind :if"
words_of OptionTwice = bytes "the same option stands twice on the line; keep one of the two"
words_of TooManyNames = bytes "more than 64 names are defined; remove one, or give a new text to one that is no longer needed"

-- of 11
unfoldable pub long_table_words : List ℕ
long_table_words = bytes "the table has more than 32,768 bytes; remove comments or entries"

-- of 12
unfoldable pub refused_byte_words : List ℕ
refused_byte_words = bytes "a table holds plain ASCII text only, and no carriage return, accented letter or curly quote; remove or replace this byte"

-- of 13
unfoldable pub cut_short_words : List ℕ
cut_short_words = bytes "the table ends before this line does; copy the whole table again, or end the line with a newline that is not behind a backslash"
