use mathlib.Core.Path.{ap}
use Rattle.explain.specs.Explained.{finding}
use Rattle.explain.specs.Words.{long_table_words, refused_byte_words, cut_short_words}
use Rattle.explain.proofs.ExplainLaws.{explained_by, finding_byte, finding_cut, finding_line, finding_ok}
use Rattle.explain.proofs.report.explain.Goals as goal

pub returns-in-MalformedQuestion : goal.returns-in-MalformedQuestion
unfolding finding
returns-in-MalformedQuestion c = explained_by _ _ _ _ c.put_name-named.ensures c.then_all.ensures (ap (finding _ _) c.in-MalformedQuestion.is)

pub returns-in-LongTable : goal.returns-in-LongTable
unfolding finding long_table_words
returns-in-LongTable c = explained_by _ _ _ _ c.put_name-named.ensures c.then_refusal.ensures (ap (finding _ _) c.in-LongTable.is)

pub returns-in-RefusedByte : goal.returns-in-RefusedByte
unfolding refused_byte_words
returns-in-RefusedByte c = explained_by _ _ _ _ c.put_name-named.ensures c.then_refusal_at.ensures (finding_byte _ _ c.in-RefusedByte.is)

pub returns-in-CutShort : goal.returns-in-CutShort
unfolding cut_short_words
returns-in-CutShort c = explained_by _ _ _ _ c.put_name-named.ensures c.then_refusal_at-in-CutShort.ensures (finding_cut _ _ c.in-CutShort.is)

pub returns-in-RefusedLine : goal.returns-in-RefusedLine
returns-in-RefusedLine c = explained_by _ _ _ _ c.put_name-named.ensures c.then_refusal_at-in-RefusedLine.ensures (finding_line _ _ c.number.ensures c.words_of.ensures c.in-RefusedLine.is)

pub returns-in-SmallBuffer : goal.returns-in-SmallBuffer
unfolding finding
returns-in-SmallBuffer c = explained_by _ _ _ _ c.put_name-named.ensures c.then_all-in-SmallBuffer.ensures (ap (finding _ _) c.in-SmallBuffer.is)

pub returns-in_default : goal.returns-in_default
returns-in_default c = explained_by _ _ _ _ c.put_name-named.ensures c.then_ok.ensures (finding_ok _ _ _ c.in_default.in_default-own.keys7)
