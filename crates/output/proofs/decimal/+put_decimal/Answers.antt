use Rattle.std.proofs.Common.{arith}
use Rattle.text.proofs.Buffers.{wrote_as, wrote_full, wrote_then}
use Rattle.output.proofs.DecimalLaws.{decimal_one, decimal_more}
use Rattle.output.proofs.decimal.+put_decimal.Goals as goal

pub returns-then-v-lt10 : goal.returns-then-v-lt10
returns-then-v-lt10 t c = wrote_as c.put.ensures (decimal_one _ (omega arith))

pub returns-in_err-m : goal.returns-in_err-m
returns-in_err-m t c = rw c.from_residual.ensures (wrote_as (wrote_full c.put_decimal.ensures c.in_err-m.was _) (decimal_more _ (omega arith)))

pub returns : goal.returns
returns t c = wrote_as (wrote_then c.put_decimal.ensures c.in_ok-m.was c.put-2.ensures) (decimal_more _ (omega arith))
