use Rattle.text.proofs.Buffers.{wrote_as, wrote_none}
use Rattle.console.proofs.PartLaws.{arguments_some, arguments_none}
use Rattle.console.proofs.question_line.put_arguments.Goals as goal

pub returns-then-end-line : goal.returns-then-end-line
returns-then-end-line c = wrote_as c.put_parts.ensures (arguments_some _ _ c.if-end-line.true)

pub returns : goal.returns
returns c = wrote_as (wrote_none _ _ c.requires) (arguments_none _ _ c.if-end-line.false)
