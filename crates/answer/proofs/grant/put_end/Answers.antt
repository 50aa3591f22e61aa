use native.Mathlib.Omega.{arith}
use Rattle.answer.proofs.GrantLaws.{put_full, put_ended}
use Rattle.answer.proofs.grant.put_end.Goals as goal

pub returns-in_err-filled : goal.returns-in_err-filled
returns-in_err-filled c = λ old n xs w h. put_full w c.in_err-filled.was (omega (arith, h))

pub returns : goal.returns
returns c = λ old n xs w h. put_ended w c.in_ok-filled.was c.put.ensures h
