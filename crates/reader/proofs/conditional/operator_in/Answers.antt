use Rattle.std.specs.Str.{bytes_eq}
use mathlib.Core.Path.{◌≡◌, sym, ◌∙◌}
use borrow.Author.Rules.{rules}
use Rattle.text.specs.Bytes.{bytes}
use Rattle.reader.proofs.ConditionalLaws.{operator_equal, operator_unequal, operator_other}
use Rattle.reader.proofs.conditional.operator_in.Goals as goal

pub returns-then-eq : goal.returns-then-eq
returns-then-eq c = let e : c.eq.result ≡ bytes_eq c.args.text.now (bytes "==") = search rules in operator_equal _ (sym e ∙ c.if-eq.true)

pub returns-then-eq-2 : goal.returns-then-eq-2
returns-then-eq-2 c = let e : c.eq.result ≡ bytes_eq c.args.text.now (bytes "==") = search rules in let n : c.eq-2.result ≡ bytes_eq c.args.text.now (bytes "!=") = search rules in operator_unequal _ (sym e ∙ c.if-eq.false) (sym n ∙ c.if-eq-2.true)

pub returns : goal.returns
returns c = let e : c.eq.result ≡ bytes_eq c.args.text.now (bytes "==") = search rules in let n : c.eq-2.result ≡ bytes_eq c.args.text.now (bytes "!=") = search rules in operator_other _ (sym e ∙ c.if-eq.false) (sym n ∙ c.if-eq-2.false)
