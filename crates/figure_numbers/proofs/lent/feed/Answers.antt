use borrow.Author.Tests.{not-true, not-false}
use Rattle.figure_numbers.proofs.Lending.{feeds_short, feeds_refused, feeds_whole, feeds_past, feeds_left}
use Rattle.figure_numbers.proofs.lent.feed.Goals as goal

pub returns-then-numbers-lt-LENGTH : goal.returns-then-numbers-lt-LENGTH
returns-then-numbers-lt-LENGTH c = feeds_short c.args.numbers.now c.args.batch.now c.if-numbers-lt-LENGTH.true

pub returns-then-not-is_usable : goal.returns-then-not-is_usable
returns-then-not-is_usable c = feeds_refused c.args.numbers.now c.args.batch.now c.if-numbers-lt-LENGTH.false c.is_usable.ensures (not-true _ c.if-not-is_usable.true-raw)

pub returns-in-Ok : goal.returns-in-Ok
returns-in-Ok c = feeds_whole c.args.numbers.now c.args.batch.now c.if-numbers-lt-LENGTH.false c.is_usable.ensures (not-false _ c.if-not-is_usable.false-raw) c.figures_in-figures.ensures c.feed.ensures c.in-Ok.is _ c.put_figures.ensures

pub returns-in-Err-NotWhole : goal.returns-in-Err-NotWhole
returns-in-Err-NotWhole c = feeds_left c.args.numbers.now c.args.batch.now c.if-numbers-lt-LENGTH.false c.is_usable.ensures (not-false _ c.if-not-is_usable.false-raw) c.figures_in-figures.ensures c.feed.ensures c.in-Err-NotWhole.is c.in-Err-NotWhole.field-0-is

pub returns-in-Err-PastLimit : goal.returns-in-Err-PastLimit
returns-in-Err-PastLimit c = feeds_past c.args.numbers.now c.args.batch.now c.if-numbers-lt-LENGTH.false c.is_usable.ensures (not-false _ c.if-not-is_usable.false-raw) c.figures_in-figures.ensures c.feed.ensures c.in-Err-PastLimit.is c.in-Err-PastLimit.field-0-is _ c.put_figures-in-Err-PastLimit.ensures
