use Rattle.std.specs.Str.{bytes_eq}
use mathlib.Core.Path.{◌≡◌, sym, ◌∙◌}
use borrow.Author.Rules.{rules}
use Rattle.text.specs.Bytes.{bytes}
use Rattle.reader.proofs.WordLaws.{word_define, word_global, word_options, word_if, word_other}
use Rattle.reader.proofs.word.word_in.Goals as goal
use Rattle.reader.proofs.word.word_in.Goals.{then-eq-2-via-then-eq-2, then-eq-2-via-else-eq-2+then-eq-3}

pub returns-then-eq : goal.returns-then-eq
returns-then-eq c = let d : c.eq.result ≡ bytes_eq c.args.text.now (bytes ":define") = search rules in word_define _ (sym d ∙ c.if-eq.true)

pub returns-then-eq-2 : goal.returns-then-eq-2
returns-then-eq-2 c =
    let d : c.eq.result ≡ bytes_eq c.args.text.now (bytes ":define") = search rules in
    let g : c.eq-2.result ≡ bytes_eq c.args.text.now (bytes ":global") = search rules in
    elim c.then-eq-2.branch [
      | then-eq-2-via-then-eq-2 w ↦ word_global _ (sym d ∙ c.if-eq.false) (sym g ∙ w.if-eq-2.true)
      | then-eq-2-via-else-eq-2+then-eq-3 w ↦ let o : w.eq-else-eq-2.result ≡ bytes_eq c.args.text.now (bytes ":global_options") = search rules in word_options _ (sym d ∙ c.if-eq.false) (sym g ∙ w.if-eq-2.false) (sym o ∙ w.if-eq-3.true)
    ]

pub returns-then-eq-4 : goal.returns-then-eq-4
returns-then-eq-4 c =
    let d : c.eq.result ≡ bytes_eq c.args.text.now (bytes ":define") = search rules in
    let g : c.eq-2.result ≡ bytes_eq c.args.text.now (bytes ":global") = search rules in
    let o : c.eq-else-eq-2.result ≡ bytes_eq c.args.text.now (bytes ":global_options") = search rules in
    let i : c.eq-3.result ≡ bytes_eq c.args.text.now (bytes ":if") = search rules in
    word_if _ (sym d ∙ c.if-eq.false) (sym g ∙ c.if-eq-2.false) (sym o ∙ c.if-eq-3.false) (sym i ∙ c.if-eq-4.true)

pub returns : goal.returns
returns c =
    let d : c.eq.result ≡ bytes_eq c.args.text.now (bytes ":define") = search rules in
    let g : c.eq-2.result ≡ bytes_eq c.args.text.now (bytes ":global") = search rules in
    let o : c.eq-else-eq-2.result ≡ bytes_eq c.args.text.now (bytes ":global_options") = search rules in
    let i : c.eq-3.result ≡ bytes_eq c.args.text.now (bytes ":if") = search rules in
    word_other _ (sym d ∙ c.if-eq.false) (sym g ∙ c.if-eq-2.false) (sym o ∙ c.if-eq-3.false) (sym i ∙ c.if-eq-4.false)
