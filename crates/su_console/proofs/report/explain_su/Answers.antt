use mathlib.Core.Path.{ap}
use Rattle.su_console.specs.Explained.{su_finding}
use Rattle.su_console.specs.Words.{long_file_words, su_refused_byte_words, su_cut_short_words, malformed_line_words}
use Rattle.su_console.proofs.ExplainLaws.{explained_by, finding_byte, finding_cut, finding_line, finding_ok}
use Rattle.su_console.proofs.report.explain_su.Goals as goal

pub returns-in-MalformedQuestion : goal.returns-in-MalformedQuestion
unfolding su_finding
returns-in-MalformedQuestion c = explained_by _ _ _ c.put_name-named.ensures c.then_all.ensures (ap (su_finding _) c.in-MalformedQuestion.is)

pub returns-in-LongFile : goal.returns-in-LongFile
unfolding su_finding long_file_words
returns-in-LongFile c = explained_by _ _ _ c.put_name-named.ensures c.then_refusal.ensures (ap (su_finding _) c.in-LongFile.is)

pub returns-in-RefusedByte : goal.returns-in-RefusedByte
unfolding su_refused_byte_words
returns-in-RefusedByte c = explained_by _ _ _ c.put_name-named.ensures c.then_refusal_at.ensures (finding_byte _ c.in-RefusedByte.is)

pub returns-in-CutShort : goal.returns-in-CutShort
unfolding su_cut_short_words
returns-in-CutShort c = explained_by _ _ _ c.put_name-named.ensures c.then_refusal_at-in-CutShort.ensures (finding_cut _ c.in-CutShort.is)

pub returns-in-MalformedLine : goal.returns-in-MalformedLine
unfolding malformed_line_words
returns-in-MalformedLine c = explained_by _ _ _ c.put_name-named.ensures c.then_refusal_at-in-MalformedLine.ensures (finding_line _ c.in-MalformedLine.is)

pub returns-in_default : goal.returns-in_default
returns-in_default c = explained_by _ _ _ c.put_name-named.ensures c.then_all-in_default.ensures (finding_ok _ _ c.in_default.in_default-own.keys6)
