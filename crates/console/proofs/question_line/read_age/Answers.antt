use mathlib.Core.Path.{sym, ◌∙◌}
use Rattle.console.proofs.NumberLaws.{dash, age_never, below_none, below_some, plain_none, plain_some}
use Rattle.console.proofs.question_line.read_age.Goals as goal

pub returns-then-eq : goal.returns-then-eq
returns-then-eq c = age_never _ (rw c.as_slice.ensures at (sym c.eq.ensures ∙ c.if-eq.true))

pub returns-in_err-read_magnitude-in-Some : goal.returns-in_err-read_magnitude-in-Some
returns-in_err-read_magnitude-in-Some c =
    let k = c.in-Some.ensures.cases in
    rw c.from_residual.ensures (below_none _ (rw c.as_slice.ensures at (sym c.eq.ensures ∙ c.if-eq.false)) (sym (dash c.args.s.now) ∙ k.0) (rw k.1 at c.in_err-read_magnitude-in-Some.ensures))

pub returns-in_err-read_magnitude-in-None : goal.returns-in_err-read_magnitude-in-None
returns-in_err-read_magnitude-in-None c =
    rw c.from_residual-in_err-read_magnitude-in-None.ensures (plain_none _ (rw c.as_slice.ensures at (sym c.eq.ensures ∙ c.if-eq.false)) (sym (dash c.args.s.now) ∙ c.in-None.ensures.cases) c.in_err-read_magnitude-in-None.ensures)

pub returns-in_ok-read_magnitude-in-Some : goal.returns-in_ok-read_magnitude-in-Some
returns-in_ok-read_magnitude-in-Some c =
    let k = c.in-Some.ensures.cases in
    c.age_of.ensures ∙ below_some _ (rw c.as_slice.ensures at (sym c.eq.ensures ∙ c.if-eq.false)) (sym (dash c.args.s.now) ∙ k.0) _ (rw k.1 at c.in_ok-read_magnitude-in-Some.ensures)

pub returns-in_ok-read_magnitude-in-None : goal.returns-in_ok-read_magnitude-in-None
returns-in_ok-read_magnitude-in-None c =
    c.age_of-in-None.ensures ∙ plain_some _ (rw c.as_slice.ensures at (sym c.eq.ensures ∙ c.if-eq.false)) (sym (dash c.args.s.now) ∙ c.in-None.ensures.cases) _ c.in_ok-read_magnitude-in-None.ensures
