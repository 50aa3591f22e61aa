use Rattle.entry_line.proofs.OwnLaws.{other_taken, other_left}
use Rattle.entry_line.proofs.own.with_text.Goals as goal

pub returns-then-is_other : goal.returns-then-is_other
returns-then-is_other c = λ ps ss l s. other_taken ss c.args.text.now c.is_other.ensures c.if-is_other.true (c.add.ensures ps ss l s)

pub returns : goal.returns
returns c = λ ps ss l s. other_left ss c.args.text.now c.is_other.ensures c.if-is_other.false s
