use borrow.Author.Tests.{not-true, not-false}
use Rattle.entry.proofs.FinishLaws.{unpaired, userless, doubled, complete}
use Rattle.entry.proofs.entry.Entry.finish.Goals as goal
use Rattle.entry.proofs.entry.Entry.finish.Goals.{then-not-self-via-then-not-self, then-not-self-via-else-not-self+then-not-self-2}

pub returns-then-not-self : goal.returns-then-not-self
returns-then-not-self c = λ j k t p e h. elim c.then-not-self.branch [
  | then-not-self-via-then-not-self w ↦ unpaired h.keeps (not-true _ w.if-not-self.true)
  | then-not-self-via-else-not-self+then-not-self-2 w ↦ userless h.keeps (not-false _ w.if-not-self.false) (not-true _ w.if-not-self-2.true)
]

pub returns-then-twice : goal.returns-then-twice
returns-then-twice c = λ j k t p e h. doubled h.keeps (not-false _ c.if-not-self.false) (not-false _ c.if-not-self-2.false) c.twice.ensures c.if-twice.true

pub returns : goal.returns
returns c = λ j k t p e h. complete h.keeps (not-false _ c.if-not-self.false) (not-false _ c.if-not-self-2.false) c.twice.ensures c.if-twice.false
