use mathlib.Core.Path.{sym, ap, ◌∙◌}
use Rattle.answer.specs.Meaning.{settled, read_bytes}
use Rattle.answer.proofs.table.read_table.Goals as goal

pub returns-in-Err-Long : goal.returns-in-Err-Long
returns-in-Err-Long c = let a = c.args in record { reads = λ room q w. ap (read_bytes a.table.now q a.buffer.now) (rw c.in-Err-Long.field-0-is at c.in-Err-Long.ensures) }

pub returns-in-Err-RefusedAt : goal.returns-in-Err-RefusedAt
returns-in-Err-RefusedAt c =
    let a = c.args in
    record { reads = λ room q w. rw c.in-Err-RefusedAt.field-0-is (ap (read_bytes a.table.now q a.buffer.now) (rw c.in-Err-RefusedAt.field-0-is at c.in-Err-RefusedAt.ensures)) }

pub returns-in-Ok : goal.returns-in-Ok
returns-in-Ok c =
    let a = c.args in
    record { reads = λ room q w. c.settle.ensures room ∙ ap (settled a.buffer.now) (sym (c.read_lines-read.ensures.gives q w)) ∙ ap (read_bytes a.table.now q a.buffer.now) c.in-Ok.ensures }
