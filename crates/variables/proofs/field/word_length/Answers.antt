use Rattle.std.proofs.Common.{rules, not}
use Rattle.std.proofs.lemmas.Iterator.{YieldsList-from_slice}
use Rattle.std.proofs.lemmas.Iterator.Search.{position_from_yields_List}
use borrow.Author.Tests.{tests}
use Rattle.text.specs.Class.{word_byte}
use Rattle.variables.proofs.SubstituteLaws.{word_ends}
use Rattle.variables.proofs.field.word_length.Goals as goal

pub returns : goal.returns
returns c = word_ends c.args.s.now (position_from_yields_List (λ b. not (word_byte b)) _ _ _ c.position.ensures.ran (YieldsList-from_slice _ c.iter.ensures.rest) (λ x b q k. search (rules, tests))) c.unwrap_or.ensures
