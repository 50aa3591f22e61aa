use Rattle.log_text.specs.Printed.{fields_text}
use Rattle.log_text.proofs.print.put_fields.Goals as goal

pub returns : goal.returns
unfolding fields_text
returns c = c.then_all.ensures.behind _ _ _
    (c.then_age.ensures.behind _ _ _
    (c.then_all-auth.ensures.behind _ _ _
    (c.then_auth.ensures.behind _ _ _
    (c.then_all-minutes.ensures.behind _ _ _
    (c.then_decimal-2.ensures.behind _ _ _
    (c.then_all-line.ensures.behind _ _ _
    (c.then_decimal.ensures.behind _ _ _
    (c.then_all-number.ensures.behind _ _ _
    c.put_decimal.ensures))))))))
