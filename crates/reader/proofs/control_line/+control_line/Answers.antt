use Rattle.std.proofs.lemmas.Result.{err_from_is_err_and}
use Rattle.std.proofs.Common.{sym, ◌∙◌, drop, arith}
use Rattle.line.specs.Contract.{fields_in}
use Rattle.reader.proofs.ControlLineLaws.{line_room, scope_parts, line_nothing, line_entry, line_early, line_word, if_deep, if_compared}
use Rattle.reader.proofs.control_line.+control_line.Goals as goal

pub returns-in-NoField : goal.returns-in-NoField
returns-in-NoField t c = let a = c.args in
    let fs = fields_in a.text.now a.ends.now a.count in
    record { acts = λ q line s eu eh ed es. line_nothing q line s a.depth (drop a.from fs) (sym c.in-NoField.is ∙ c.kind_of.ensures) }

pub returns-else-not-shell : goal.returns-else-not-shell
returns-else-not-shell t c = let a = c.args in
    let fs = fields_in a.text.now a.ends.now a.count in
    record { acts = λ q line s eu eh ed es. line_entry q line s a.depth (drop a.from fs) (sym c.in-Entry.is ∙ c.kind_of.ensures) (es ∙ c.if-not-shell.false) }

pub returns-then-not-shell : goal.returns-then-not-shell
returns-then-not-shell t c = let a = c.args in
    let fs = fields_in a.text.now a.ends.now a.count in
    record { acts = λ q line s eu eh ed es. line_early q line s a.depth (drop a.from fs) (sym c.in-Entry.is ∙ c.kind_of.ensures) (es ∙ c.if-not-shell.true) }

pub overflow_add-result : goal.overflow_add-result
overflow_add-result t c = let a = c.args in omega (arith, line_room a.text.now a.ends.now a.count a.from (sym c.in-Colon.is ∙ c.kind_of.ensures))

pub overflow_add-result-in-Global : goal.overflow_add-result-in-Global
overflow_add-result-in-Global t c = let a = c.args in omega (arith, line_room a.text.now a.ends.now a.count a.from (sym c.in-Colon.is ∙ c.kind_of.ensures))

pub overflow_add-from : goal.overflow_add-from
overflow_add-from t c = let a = c.args in omega (arith, line_room a.text.now a.ends.now a.count a.from (sym c.in-Colon.is ∙ c.kind_of.ensures))

pub overflow_add-from-in-If : goal.overflow_add-from-in-If
overflow_add-from-in-If t c = let a = c.args in omega (arith, line_room a.text.now a.ends.now a.count a.from (sym c.in-Colon.is ∙ c.kind_of.ensures))

pub returns-in_err-colon_word-in-Colon : goal.returns-in_err-colon_word-in-Colon
returns-in_err-colon_word-in-Colon t c = let a = c.args in
    let fs = fields_in a.text.now a.ends.now a.count in
    let p = err_from_is_err_and c.from_residual.result c.from_residual.ensures.1 in
    rw (p.1, p.2) (record { acts = λ q line s eu eh ed es. line_word q line s a.depth fs a.from (scope_parts q s eu eh ed) (sym c.in-Colon.is ∙ c.kind_of.ensures) c.field-word.ensures c.in_err-colon_word-in-Colon.ensures })

pub returns-in-Define : goal.returns-in-Define
returns-in-Define t c = let a = c.args in
    let fs = fields_in a.text.now a.ends.now a.count in
    record { acts = λ q line s eu eh ed es. line_word q line s a.depth fs a.from (scope_parts q s eu eh ed) (sym c.in-Colon.is ∙ c.kind_of.ensures) c.field-word.ensures (rw c.in-Define.is at c.in_ok-colon_word-in-Colon.ensures) }

pub returns-in-Global : goal.returns-in-Global
returns-in-Global t c = let a = c.args in
    let fs = fields_in a.text.now a.ends.now a.count in
    record { acts = λ q line s eu eh ed es. line_word q line s a.depth fs a.from (scope_parts q s eu eh ed) (sym c.in-Colon.is ∙ c.kind_of.ensures) c.field-word.ensures (rw c.in-Global.is at c.in_ok-colon_word-in-Colon.ensures) }

pub returns-then-depth-eq0 : goal.returns-then-depth-eq0
returns-then-depth-eq0 t c = let a = c.args in
    let fs = fields_in a.text.now a.ends.now a.count in
    record { acts = λ q line s eu eh ed es. line_word q line s a.depth fs a.from (scope_parts q s eu eh ed) (sym c.in-Colon.is ∙ c.kind_of.ensures) c.field-word.ensures (rw c.in-If.is at c.in_ok-colon_word-in-Colon.ensures) ∙ if_deep q line s a.depth fs a.from (scope_parts q s eu eh ed) c.if-depth-eq0.true }

pub returns-in_err-compare-in-If : goal.returns-in_err-compare-in-If
returns-in_err-compare-in-If t c = let a = c.args in
    let fs = fields_in a.text.now a.ends.now a.count in
    let p = err_from_is_err_and c.from_residual-in_err-compare-in-If.result c.from_residual-in_err-compare-in-If.ensures.1 in
    rw (p.1, p.2) (record { acts = λ q line s eu eh ed es. line_word q line s a.depth fs a.from (scope_parts q s eu eh ed) (sym c.in-Colon.is ∙ c.kind_of.ensures) c.field-word.ensures (rw c.in-If.is at c.in_ok-colon_word-in-Colon.ensures) ∙ if_compared q line s a.depth fs a.from (scope_parts q s eu eh ed) c.if-depth-eq0.false c.in_err-compare-in-If.ensures })

pub returns-then-not-branch : goal.returns-then-not-branch
returns-then-not-branch t c = let a = c.args in
    let fs = fields_in a.text.now a.ends.now a.count in
    record { acts = λ q line s eu eh ed es. line_word q line s a.depth fs a.from (scope_parts q s eu eh ed) (sym c.in-Colon.is ∙ c.kind_of.ensures) c.field-word.ensures (rw c.in-If.is at c.in_ok-colon_word-in-Colon.ensures) ∙ if_compared q line s a.depth fs a.from (scope_parts q s eu eh ed) c.if-depth-eq0.false (rw c.if-not-branch.true at c.in_ok-compare-in-If.ensures) }

pub returns-else-not-branch : goal.returns-else-not-branch
returns-else-not-branch t c = let a = c.args in
    let fs = fields_in a.text.now a.ends.now a.count in
    record { acts = λ q line s eu eh ed es. line_word q line s a.depth fs a.from (scope_parts q s eu eh ed) (sym c.in-Colon.is ∙ c.kind_of.ensures) c.field-word.ensures (rw c.in-If.is at c.in_ok-colon_word-in-Colon.ensures) ∙ if_compared q line s a.depth fs a.from (scope_parts q s eu eh ed) c.if-depth-eq0.false (rw c.if-not-branch.false at c.in_ok-compare-in-If.ensures) ∙ c.control_line.ensures.acts q line s eu eh ed es }
