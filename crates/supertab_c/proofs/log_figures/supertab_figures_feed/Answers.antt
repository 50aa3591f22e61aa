use Rattle.supertab_c.proofs.FigureLaws.{feed_short, feed_unusable, feed_done, feed_refused}
use Rattle.supertab_c.proofs.log_figures.supertab_figures_feed.Goals as goal

pub returns-then-refused-eq0 : goal.returns-then-refused-eq0
returns-then-refused-eq0 c = feed_short c.args.figures.now c.args.batch.now c.args.refused.now c.if-refused-eq0.true

pub returns-in-Ok : goal.returns-in-Ok
returns-in-Ok c = feed_done c.args.figures.now c.args.batch.now c.args.refused.now c.if-refused-eq0.false c.feed.ensures c.in-Ok.is c.put_past.ensures

pub returns-in-Err-Feed : goal.returns-in-Err-Feed
returns-in-Err-Feed c = feed_refused c.args.figures.now c.args.batch.now c.args.refused.now c.if-refused-eq0.false c.feed.ensures c.in-Err-Feed.is c.in-Err-Feed.field-0-is c.number.ensures c.put_past-in-Err-Feed.ensures

pub returns-in-Err-Unusable : goal.returns-in-Err-Unusable
returns-in-Err-Unusable c = feed_unusable c.args.figures.now c.args.batch.now c.args.refused.now c.if-refused-eq0.false c.feed.ensures c.in-Err-Unusable.is c.in-Err-Unusable.field-0-is
