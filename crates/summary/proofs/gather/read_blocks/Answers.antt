use mathlib.Core.List.{[]}
use borrow.Author.Rules.{rules}
use borrow.Author.Tests.{not-false}
use Rattle.summary.proofs.GatherLaws.{reads_on}
use Rattle.summary.proofs.gather.read_blocks.Goals as goal

pub loop-init : goal.loop-init
loop-init c = ([], c.requires.1)

pub take_loaded-reading-requires : goal.take_loaded-reading-requires
take_loaded-reading-requires c = (c.read_all-loaded.ensures, search rules, not-false _ c.if-not-reading.false)

pub loop-preserved : goal.loop-preserved
loop-preserved c = reads_on c.take_loaded-reading.ensures c.loop.invariant
