-- The table passes the test of the classes.
use mathlib.Core.Path.{refl}
use borrow.Author.Rules.{rules}
use Rattle.text.specs.declared.class.TheConstants.{CLASSES}
use Rattle.text.specs.Class.{class_of, blank, letter, digit, printable}
use Rattle.text.proofs.Classes.{class_at}
use Rattle.text.proofs.class.class_of.Goals as goal

pub returns : goal.returns
unfolding class_of blank letter digit printable
returns c = class_at CLASSES refl c.args.b (search rules)
