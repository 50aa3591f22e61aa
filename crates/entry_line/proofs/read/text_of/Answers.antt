use mathlib.Core.Path.{◌≡◌, refl, sym, ◌∙◌}
use mathlib.Core.Bool.{true}
use Rattle.std.proofs.lemmas.Result.{err_from_is_err_and}
use Rattle.variables.specs.Contract.{verbatim}
use Rattle.variables.proofs.TextLaws.{text_fault}
use Rattle.entry_line.proofs.ReadLaws.{verbatim_given, text_given}
use Rattle.entry_line.proofs.read.text_of.Goals as goal
use Rattle.entry_line.proofs.read.text_of.Goals.{then-known-via-then-known, then-known-via-else-known+then-is_verbatim}

pub returns-then-known : goal.returns-then-known
returns-then-known c =
    let v : verbatim c.args.field.now ≡ true = elim c.then-known.branch [ then-known-via-then-known w ↦ c.requires w.if-known.true | then-known-via-else-known+then-is_verbatim w ↦ sym w.is_verbatim.ensures ∙ w.if-is_verbatim.true ] in
    verbatim_given _ _ v

pub returns-in_err-n : goal.returns-in_err-n
returns-in_err-n c = let q = err_from_is_err_and c.from_residual.result c.from_residual.ensures.1 in rw (q.1, q.2) (text_fault c.in_err-n.ensures refl)

pub returns : goal.returns
returns c = text_given _ _ refl c.in_ok-n.ensures
