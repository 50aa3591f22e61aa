use Rattle.line.proofs.scanner.Scanner.past_run.Goals as goal

pub returns-in-Fields-Outside : goal.returns-in-Fields-Outside
returns-in-Fields-Outside c = c.past_plain.ensures _
